-- A certificate fits a network: its numbers are the network's and its own, each key is in its filter or topic, and nothing is
-- named twice.
use Rattle.std.specs.Prelude.{ℕ, Bool, true, ◌&&◌, ◌==◌, not, nat_lt, nat_le, List, [], ◌∷◌, length, map}
use Rattle.std.specs.List.{list_any, list_all}
use Rattle.std.specs.Str.{bytes_eq}
use Rattle.dds_base.specs.Limits.{most_rows}
use Rattle.dds_match.specs.Network.{Network}
use Rattle.dds_weights.specs.declared.certificate.Weight.{Weight}
use Rattle.dds_weights.specs.declared.certificate.Bound.{Bound}
use Rattle.dds_weights.specs.declared.certificate.Total.{Total}
use Rattle.dds_weights.specs.Lists.{Row, Certificate}

-- no two of a list are the same by the test
abbrev pub is_distinct : {A : Type 0} → (A → A → Bool) → List A → Bool
is_distinct same [] = true
is_distinct same (x ∷ xs) = not (list_any (same x) xs) && is_distinct same xs

-- no key stands twice
abbrev pub keys_differ : List ℕ → Bool
keys_differ ks = is_distinct (λ x y. y == x) ks

abbrev pub same_weight_place : Weight ℕ → Weight ℕ → Bool
same_weight_place x y = (y.endpoint == x.endpoint) && (y.key == x.key)

-- each key is one that the endpoint has, and no endpoint and key are named twice
abbrev pub weights_fit : (ℕ → ℕ → Bool) → List (Weight ℕ) → Bool
weights_fit has_key xs = list_all (λ x. has_key x.endpoint x.key) xs && is_distinct same_weight_place xs

abbrev pub row_fits : Network → Row → Bool
row_fits net row = weights_fit net.hears row.samples && (weights_fit net.hears row.takes && weights_fit net.writes_key row.permits)

abbrev pub names_differ : List Row → Bool
names_differ rows = is_distinct (λ x y. bytes_eq y x) (map (λ r. r.name) rows)

abbrev pub rows_fit : Network → List Row → Bool
rows_fit net rows = nat_le (length rows) most_rows && (names_differ rows && list_all (row_fits net) rows)

abbrev pub same_bound_place : Bound → Bound → Bool
same_bound_place x y = (y.reader == x.reader) && (y.key == x.key)

abbrev pub bounds_fit : Network → ℕ → List Bound → Bool
bounds_fit net rows bs = list_all (λ b. net.hears b.reader b.key && nat_lt b.row rows) bs && is_distinct same_bound_place bs

abbrev pub totals_fit : Network → ℕ → List Total → Bool
totals_fit net rows ts = list_all (λ t. nat_lt t.reader net.readers && nat_lt t.row rows) ts && is_distinct (λ x y. y.reader == x.reader) ts

unfoldable pub fits : Network → Certificate → Bool
fits net cert = rows_fit net cert.rows && (bounds_fit net (length cert.rows) cert.bounds && totals_fit net (length cert.rows) cert.totals)
