-- Look-ups in the lists of a certificate, and tables that answer them at once.
use Rattle.std.specs.Prelude.{ℕ, ◌≡◌, ◌+◌, ◌*◌, ◌<◌, ◌≤◌, ◌==◌, ◌&&◌, List, [], ◌∷◌, length, slice_index_or, Option, Some, None, if◌then◌else◌}
use Rattle.dds_base.specs.Grid.{most_endpoints, most_keys}
use Rattle.dds_base.specs.Limits.{most_rows}
use Rattle.dds_base.specs.declared.portion.Portion.{Portion}
use Rattle.dds_weights.specs.Lists.{Certificate}
use Rattle.dds_weights.specs.declared.certificate.Bound.{Bound}
use Rattle.dds_weights.specs.declared.certificate.Total.{Total}

-- the bound of a key of a reader, if the list names one: the first
abbrev pub bound_of : List Bound → ℕ → ℕ → Option ℕ
bound_of [] r k = None
bound_of (b ∷ bs) r k = if (b.reader == r) && (b.key == k) then Some b.bound else bound_of bs r k

-- the total of a reader, if the list names one: the first
abbrev pub total_of : List Total → ℕ → Option ℕ
total_of [] r = None
total_of (t ∷ ts) r = if t.reader == r then Some t.bound else total_of ts r

-- the sum of count times weight over a rule's list, by the numbers of the endpoints
abbrev pub weighed_by : {E : Type 0} → (E → ℕ) → List (Portion E) → (ℕ → ℕ → ℕ) → ℕ
weighed_by number [] f = 0
weighed_by number (x ∷ xs) f = x.count * f (number x.endpoint) x.key + weighed_by number xs f

-- a certificate has no more rows than one may have
abbrev pub HasFewRows : Certificate → Type 0
HasFewRows cert = length cert.rows ≤ most_rows

-- the place of key k has the bound of the key at the reader
pub record ShowsBounds (r : ℕ) (cells : List (Option ℕ)) (entries : List Bound) : Type 0 where
  pub len : length cells ≡ most_keys
  pub shown : (k : ℕ) → k < most_keys → slice_index_or cells k None ≡ bound_of entries r k

-- the place of reader r has its total
pub record ShowsTotals (cells : List (Option ℕ)) (entries : List Total) : Type 0 where
  pub len : length cells ≡ most_endpoints
  pub shown : (r : ℕ) → r < most_endpoints → slice_index_or cells r None ≡ total_of entries r
