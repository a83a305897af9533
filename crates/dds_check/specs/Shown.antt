-- Number 33: each bound and each total is shown by its row.
use Rattle.std.specs.Prelude.{ℕ, suc, ◌*◌, Bool, false, ◌&&◌, ◌||◌, ◌==◌, ◌≡◌, not, nat_lt, nat_le, List, length, Option, Some, slice_get, slice_index}
use Rattle.std.specs.Option.{option_map_or}
use Rattle.dds_match.specs.Network.{Network, reach}
use Rattle.dds_weights.specs.declared.certificate.Bound.{Bound}
use Rattle.dds_weights.specs.declared.certificate.Total.{Total}
use Rattle.dds_weights.specs.Lists as lists
use Rattle.dds_check.specs.declared.verdict.No.{No}
use Rattle.dds_check.specs.declared.verdict.Number.TheVariants.{BoundNotShown}
use Rattle.dds_check.specs.declared.verdict.Subject.TheVariants.{Instance, Reader}
use Rattle.dds_runs.specs.First.{◌orElse◌, first_in, all_below}
use Rattle.dds_check.specs.Verdict.{fails}
use Rattle.dds_runs.specs.Accepted.{Row, row_of, carried, budget}

-- what the samples of the key weigh that are in flight to the reader, at most, where the row carries them by caps
abbrev pub carried_weight : Network → Row → ℕ → ℕ → ℕ
carried_weight net row r k = option_map_or (λ n. row.samples r k * n) (carried net row r k) 0

-- a sample in flight weighs something, and the bound and one sample more weigh more than the budget
abbrev pub shows : Network → Row → ℕ → ℕ → ℕ → Bool
shows net row b r k = nat_lt 0 (row.samples r k) && nat_lt (budget net row) (suc b * row.samples r k)

-- the bound's row isn't there or doesn't show it
abbrev pub is_unshown : Network → List lists.Row → Bound → Bool
is_unshown net rows b = not (option_map_or (λ row. shows net (row_of row) b.bound b.reader b.key) (slice_get rows b.row) false)

-- a bound that no row shows
abbrev pub bound_not_shown : Network → List lists.Row → Bound → ℕ → Option No
bound_not_shown net rows b i = fails (is_unshown net rows b) BoundNotShown (Instance b.reader b.key)

-- the row shows the total for each key that can reach the reader
abbrev pub shows_all : Network → Row → Total → Bool
shows_all net row t = all_below net.keys (λ k. not (reach net t.reader k) || shows net row t.bound t.reader k)

-- a total whose row isn't there or doesn't show it
abbrev pub total_not_shown : Network → List lists.Row → Total → ℕ → Option No
total_not_shown net rows t i =
    fails (not (option_map_or (λ row. shows_all net (row_of row) t) (slice_get rows t.row) false)) BoundNotShown (Reader t.reader)

-- the place of a row has its budget
abbrev pub HasBudgets : Network → List lists.Row → List ℕ → Type 0
HasBudgets net rows sums = (n : ℕ) (row : lists.Row) → slice_get rows n ≡ Some row → slice_index sums n ≡ budget net (row_of row)

-- the bound names row n, and the row doesn't show it
abbrev pub is_unshown_by : Network → lists.Row → ℕ → Bound → Bool
is_unshown_by net row n b = (b.row == n) && not (shows net (row_of row) b.bound b.reader b.key)

-- the bound's row isn't in the list
abbrev pub names_no_row : List lists.Row → Bound → Bool
names_no_row rows b = nat_le (length rows) b.row

-- the first refusal of this number: bounds in the order of the certificate, then totals in theirs
unfoldable pub shown_no : Network → lists.Certificate → Option No
shown_no net cert = first_in cert.bounds (bound_not_shown net cert.rows) orElse first_in cert.totals (total_not_shown net cert.rows)
