-- What is promised of sizes: the least bounds that weights show, for all that a certificate can bound.
use Rattle.std.specs.Prelude.{ℕ, ◌+◌, ◌≡◌, ◌==◌, ◌&&◌, ◌||◌, Bool, true, false, nat_le, nat_lt, min, List, [], ◌∷◌, ◌++◌, Option, Some, None, flat_map, map, if◌then◌else◌}
use Rattle.std.specs.List.{All, list_all, list_any, range_with_len}
use Rattle.dds_match.specs.Network.{Network, reach}
use Rattle.dds_weights.specs.Fits.{fits}
use Rattle.dds_weights.specs.Lists.{Certificate}
use Rattle.dds_weights.specs.declared.certificate.Bound.{Bound}
use Rattle.dds_weights.specs.declared.certificate.Total.{Total}
use Rattle.dds_runs.specs.Accepted.{certificate_of}
use Rattle.dds_claims.specs.Claims.{IsShown}
use Rattle.dds_propose.specs.declared.targets.Target.{Target}
use Rattle.dds_propose.specs.declared.targets.Target.TheVariants.{Instance, Reader}
use Rattle.dds_search.specs.Answers.{IsShownLeast}
use Rattle.dds_search.specs.declared.answer.Least.{Least}
use Rattle.dds_search.specs.declared.answer.Least.TheVariants.{Shown, Unbounded, Unknown}
use Rattle.dds_search.specs.declared.certificate.sizes.Size.{Size}

-- ── all that a certificate can bound
-- the key, where it can reach the reader
abbrev pub key_target : Network → ℕ → ℕ → List Target
key_target net r k = if reach net r k then Instance r k ∷ [] else []

-- the keys that can reach the reader, in the order of its topic
unfoldable pub key_targets : Network → ℕ → List Target
key_targets net r = flat_map (key_target net r) (range_with_len 0 net.keys)

-- the keys of a reader and then the reader, where there is a key
abbrev pub with_reader : ℕ → List Target → List Target
with_reader r [] = []
with_reader r (key ∷ keys) = (key ∷ keys) ++ Reader r ∷ []

-- the same of the keys that can reach a strict reader; a watcher has none
abbrev pub reader_targets : Network → ℕ → List Target
reader_targets net r = if net.watcher r then [] else with_reader r (key_targets net r)

-- those of all readers, in file order
abbrev pub every_target : Network → List Target
every_target net = flat_map (reader_targets net) (range_with_len 0 net.readers)

-- ── sizes
-- the bound that is given, if one is, is shown by some weights
abbrev pub IsShownSize : Network → Size → Type 0
IsShownSize net size = IsShownLeast net size.target size.least

-- a size for all that a certificate can bound, in file order, each of them shown
abbrev pub AreSizes : Network → List Size → Type 0
AreSizes net sizes = (map (λ size. size.target) sizes ≡ every_target net) × All (IsShownSize net) sizes

-- the target is a key of the reader
abbrev pub is_key_of : ℕ → Target → Bool
is_key_of r (Instance q k) = q == r
is_key_of r (Reader q) = false

-- a bound, where it is below 2 ^ 32
abbrev pub within_32_bits : ℕ → Option ℕ
within_32_bits n = if nat_lt n 4294967296 then Some n else None

-- a sum with one more bound, where there is one and the sum is below 2 ^ 32
abbrev pub with_least : Option ℕ → Least → Option ℕ
with_least (Some sum) (Shown n) = within_32_bits (sum + n)
with_least None (Shown n) = None
with_least sum Unbounded = None
with_least sum Unknown = None

-- a sum with one more size, if it is of a key of the reader
abbrev pub with_size : ℕ → Option ℕ → Size → Option ℕ
with_size r sum size = if is_key_of r size.target then with_least sum size.least else sum

-- a sum with the sizes of a reader's keys
unfoldable pub sum_of : ℕ → Option ℕ → List Size → Option ℕ
sum_of r sum [] = sum
sum_of r sum (size ∷ sizes) = sum_of r (with_size r sum size) sizes

-- the lesser of what one row shows and of a sum
abbrev pub lesser : Least → Option ℕ → Least
lesser (Shown n) (Some sum) = Shown (min n sum)
lesser Unbounded (Some sum) = Shown sum
lesser Unknown (Some sum) = Shown sum
lesser by_row None = by_row

-- what is known of the samples of a reader together, by one row or by the sum of the bounds of its keys
abbrev pub total_of : List Size → ℕ → Least → Least
total_of sizes r by_row = lesser by_row (sum_of r (Some 0) sizes)

-- ── a certificate of sizes
-- the certificate has a bound of the key that is no greater
abbrev pub has_bound : Certificate → ℕ → ℕ → ℕ → Bool
has_bound cert r k n = list_any (λ b. (b.reader == r) && ((b.key == k) && nat_le b.bound n)) cert.bounds

-- the certificate has a total of the reader that is no greater
abbrev pub has_total : Certificate → ℕ → ℕ → Bool
has_total cert r n = list_any (λ t. (t.reader == r) && nat_le t.bound n) cert.totals

-- a sum is within a bound
abbrev pub is_within : Option ℕ → ℕ → Bool
is_within (Some sum) n = nat_le sum n
is_within None n = false

-- the certificate has a bound of the target that is no greater: for the samples of a reader together a total, or bounds of its keys with such a sum
abbrev pub claims_bound : Certificate → List Size → Target → ℕ → Bool
claims_bound cert sizes (Instance r k) n = has_bound cert r k n
claims_bound cert sizes (Reader r) n = is_within (sum_of r (Some 0) sizes) n || has_total cert r n

-- it has what was found
abbrev pub claims_for : Certificate → List Size → Target → Least → Bool
claims_for cert sizes target (Shown n) = claims_bound cert sizes target n
claims_for cert sizes target Unbounded = true
claims_for cert sizes target Unknown = true

abbrev pub claims : Certificate → List Size → Size → Bool
claims cert sizes size = claims_for cert sizes size.target size.least

-- it has all that was found
abbrev pub claims_all : Certificate → List Size → Bool
claims_all cert sizes = list_all (claims cert sizes) sizes
