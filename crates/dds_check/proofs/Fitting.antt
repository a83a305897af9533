-- A certificate that fits has few rows.
use Rattle.std.proofs.Common.{ℕ, ◌≡◌, ◌≤◌, ◌&&◌, true, length, nat_le, arith}
use Rattle.std.specs.List.{list_all}
use Rattle.std.proofs.lemmas.Bool.Decides.{nat_tests}
use Rattle.dds_match.specs.Network.{Network}
use Rattle.dds_weights.specs.Lists.{Certificate}
use Rattle.dds_weights.specs.Fits.{row_fits, names_differ, rows_fit, bounds_fit, totals_fit, fits}
use Rattle.dds_check.specs.Tables.{HasFewRows}
use Rattle.dds_check.proofs.FirstLemmas.{both_first}

le_of : (x y : ℕ) → nat_le x y ≡ true → x ≤ y
le_of x y h = grind (arith, nat_tests)

pub few_rows : (net : Network) (cert : Certificate) → fits net cert ≡ true → HasFewRows cert
unfolding fits
few_rows net cert h =
    let n = length cert.rows in
    let rows = both_first (rows_fit net cert.rows) (bounds_fit net n cert.bounds && totals_fit net n cert.totals) h in
    le_of n 64 (both_first (nat_le n 64) (names_differ cert.rows && list_all (row_fits net) cert.rows) rows)
