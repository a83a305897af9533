-- What an application waits for that can do no more.
use Rattle.std.specs.Prelude.{ℕ, Bool, ◌&&◌, ◌==◌, nat_lt, List, [], ◌++◌, codes, length, if◌then◌else◌}
use Rattle.std.specs.List.{list_any}
use Rattle.dds_base.specs.Sums.{any_below}
use Rattle.dds_base.specs.declared.portion.Portion.{Portion}
use Rattle.dds_lists.specs.Lists.{Lists, has, readers_at}
use Rattle.dds_match.specs.Network.{Network}
use Rattle.dds_match.specs.Plan.{network_of}
use Rattle.dds_text.specs.Names.{name_at, reader_key, reader_keys, reader_name}
use Rattle.dds_text.specs.Texts.{each_below}

-- more of the key at the reader are needed than these
abbrev pub is_short : List (Portion ℕ) → (r k spare : ℕ) → Bool
is_short needs r k spare = list_any (λ (e : Portion ℕ). ((e.endpoint == r) && (e.key == k)) && nat_lt spare e.count) needs

-- the rule is the application's, and needs more takes of the key at the reader than these
abbrev pub lacks : Network → (a r k spare : ℕ) → ℕ → Bool
lacks net a r k spare u = ((net.rule u).application == a) && is_short (net.rule u).takes r k spare

-- some rule of the application needs more takes of the key at the reader than are unspent
abbrev pub waits : Network → (ℕ → ℕ → ℕ) → (a r k : ℕ) → Bool
waits net spare a r k = any_below net.rules (lacks net a r k (spare r k))

-- the line of an application that waits for a key at a reader
abbrev pub wait_line : Lists → (a r k : ℕ) → List ℕ
wait_line d a r k = name_at d.applications.names a ++ (codes " waits for " ++ (reader_name d r ++ (codes " " ++ (reader_key d r k ++ codes "\n"))))

abbrev pub key_wait : Lists → (ℕ → ℕ → ℕ) → (a r k : ℕ) → List ℕ
key_wait d spare a r k = if waits (network_of d) spare a r k then wait_line d a r k else []

-- the lines of the keys of a reader, in the order of the topic
abbrev pub keys_waits : Lists → (ℕ → ℕ → ℕ) → (a r : ℕ) → List ℕ
keys_waits d spare a r = each_below (length (reader_keys d r)) (key_wait d spare a r)

-- the same of one of its readers
abbrev pub reader_waits : Lists → (ℕ → ℕ → ℕ) → (a r : ℕ) → List ℕ
reader_waits d spare a r = if has (readers_at d.applications a) r then keys_waits d spare a r else []

-- the lines of an application, by readers in file order
abbrev pub app_waits : Lists → (ℕ → ℕ → ℕ) → ℕ → List ℕ
app_waits d spare a = each_below (length d.readers.entries) (reader_waits d spare a)
