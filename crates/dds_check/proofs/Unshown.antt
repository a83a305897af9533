-- The first bound that its row doesn't show, found row by row.
use Rattle.std.proofs.Common.{ℕ, Bool, true, false, not, ◌&&◌, ◌||◌, ◌==◌, ◌≡◌, ◌+◌, ◌<◌, ◌≤◌, nat_lt, nat_le, List, length, slice_get, Option, Some, None, refl, sym, ap, ◌∙◌, subst, arith}
use Rattle.std.specs.Option.{option_map_or}
use Rattle.std.proofs.lemmas.Bool.{eqb-true, leb-true}
use Rattle.std.proofs.lemmas.Bool.Decides.{nat_tests}
use Rattle.std.proofs.lemmas.Option.{slice_get_within, slice_get_past}
use Rattle.dds_match.specs.Network.{Network}
use Rattle.dds_weights.specs.Lists as lists
use Rattle.dds_weights.specs.declared.certificate.Bound.{Bound}
use Rattle.dds_check.specs.declared.verdict.Number.TheVariants.{BoundNotShown}
use Rattle.dds_check.specs.declared.verdict.Subject.TheVariants.{Instance}
use Rattle.dds_runs.specs.First.{first_in, at_item, IsFirstBefore}
use Rattle.dds_check.specs.Verdict.{fails}
use Rattle.dds_runs.specs.Accepted.{row_of}
use Rattle.dds_check.specs.Shown.{shows, is_unshown, is_unshown_by, names_no_row, bound_not_shown}
use Rattle.dds_check.proofs.FirstLemmas.{first_in_found, first_below_all}
use Rattle.dds_check.proofs.FirstBefore.{first_of_same, first_of_either}

-- the bound isn't shown, and its row is one of the first n or none
abbrev pub is_unshown_until : Network → List lists.Row → ℕ → Bound → Bool
is_unshown_until net rows n b = is_unshown net rows b && (nat_lt b.row n || names_no_row rows b)

-- before the first row
pub until_start : (net : Network) (rows : List lists.Row) (b : Bound) → names_no_row rows b ≡ is_unshown_until net rows 0 b
until_start net rows b = go (nat_le (length rows) b.row) refl
  where
    test : Option lists.Row → Bool
    test o = not (option_map_or (λ row. shows net (row_of row) b.bound b.reader b.key) o false)

    none_below : (x : Bool) → (x && (nat_lt b.row 0 || false)) ≡ false
    none_below true = grind (arith, nat_tests)
    none_below false = refl

    all_past : (x : Bool) → x ≡ true → (x && (nat_lt b.row 0 || true)) ≡ true
    all_past x h = rw h (grind (arith, nat_tests))

    go : (past : Bool) → nat_le (length rows) b.row ≡ past → past ≡ (is_unshown net rows b && (nat_lt b.row 0 || past))
    go true e = sym (all_past (is_unshown net rows b) (ap test (slice_get_past rows b.row (leb-true (length rows) b.row e))))
    go false e = sym (none_below (is_unshown net rows b))

-- one row more
pub until_more : (net : Network) (rows : List lists.Row) (n : ℕ) (row : lists.Row) → slice_get rows n ≡ Some row → (b : Bound) → (is_unshown_until net rows n b || is_unshown_by net row n b) ≡ is_unshown_until net rows (n + 1) b
until_more net rows n row at b = go (b.row == n) refl
  where
    test : Option lists.Row → Bool
    test o = not (option_map_or (λ row. shows net (row_of row) b.bound b.reader b.key) o false)

    here : (k m : ℕ) (u : Bool) → k ≡ n → n < m → ((u && (nat_lt k n || nat_le m k)) || (true && u)) ≡ (u && (nat_lt k (n + 1) || nat_le m k))
    here k m true same low = grind (arith, nat_tests)
    here k m false same low = refl

    other : (k m : ℕ) (u v : Bool) → (k == n) ≡ false → ((u && (nat_lt k n || nat_le m k)) || (false && v)) ≡ (u && (nat_lt k (n + 1) || nat_le m k))
    other k m true v e = grind (arith, nat_tests)
    other k m false v e = refl

    go : (t : Bool) → (b.row == n) ≡ t → ((is_unshown net rows b && (nat_lt b.row n || nat_le (length rows) b.row)) || (t && not (shows net (row_of row) b.bound b.reader b.key))) ≡ (is_unshown net rows b && (nat_lt b.row (n + 1) || nat_le (length rows) b.row))
    go true e =
        let same : b.row ≡ n = eqb-true b.row n e in
        let unshown : is_unshown net rows b ≡ not (shows net (row_of row) b.bound b.reader b.key) = ap test (ap (slice_get rows) same ∙ at) in
        subst
        (λ u. ((is_unshown net rows b && (nat_lt b.row n || nat_le (length rows) b.row)) || (true && u)) ≡ (is_unshown net rows b && (nat_lt b.row (n + 1) || nat_le (length rows) b.row)))
        unshown
        (here b.row (length rows) (is_unshown net rows b) same (slice_get_within rows n row at))
    go false e = other b.row (length rows) (is_unshown net rows b) (not (shows net (row_of row) b.bound b.reader b.key)) e

-- after the last row
pub until_all : (net : Network) (rows : List lists.Row) (b : Bound) → is_unshown_until net rows (length rows) b ≡ is_unshown net rows b
until_all net rows b = go (is_unshown net rows b) b.row (length rows)
  where
    go : (u : Bool) (k m : ℕ) → (u && (nat_lt k m || nat_le m k)) ≡ u
    go true k m = grind (arith, nat_tests)
    go false k m = refl

pub first_until_start : (net : Network) (rows : List lists.Row) (bounds : List Bound) (len end : ℕ) → IsFirstBefore bounds (names_no_row rows) len end → IsFirstBefore bounds (is_unshown_until net rows 0) len end
first_until_start net rows bounds len end first = first_of_same bounds (names_no_row rows) (is_unshown_until net rows 0) len end (until_start net rows) first

pub first_until_more : (net : Network) (rows : List lists.Row) (bounds : List Bound) (len end n m : ℕ) (row : lists.Row) → slice_get rows n ≡ Some row →
    IsFirstBefore bounds (is_unshown_until net rows n) len end → IsFirstBefore bounds (is_unshown_by net row n) end m → IsFirstBefore bounds (is_unshown_until net rows (n + 1)) len m
first_until_more net rows bounds len end n m row at one two =
    first_of_same bounds (λ b. is_unshown_until net rows n b || is_unshown_by net row n b) (is_unshown_until net rows (n + 1)) len m (until_more net rows n row at)
    (first_of_either bounds (is_unshown_until net rows n) (is_unshown_by net row n) len end m one two)

pub first_until_all : (net : Network) (rows : List lists.Row) (bounds : List Bound) (len end n : ℕ) → n ≡ length rows → IsFirstBefore bounds (is_unshown_until net rows n) len end → IsFirstBefore bounds (is_unshown net rows) len end
first_until_all net rows bounds len end n same first =
    first_of_same bounds (is_unshown_until net rows (length rows)) (is_unshown net rows) len end (until_all net rows) (subst (λ k. IsFirstBefore bounds (is_unshown_until net rows k) len end) same first)

not_shown : (net : Network) (rows : List lists.Row) (i : ℕ) (b : Bound) (t : Bool) → is_unshown net rows b ≡ t → bound_not_shown net rows b i ≡ fails t BoundNotShown (Instance b.reader b.key)
not_shown net rows i b t h = ap (λ u. fails u BoundNotShown (Instance b.reader b.key)) h

-- no earlier bound is refused
earlier : (net : Network) (rows : List lists.Row) (bounds : List Bound) (len n : ℕ) → IsFirstBefore bounds (is_unshown net rows) len n → (i : ℕ) → i < n → at_item bounds (bound_not_shown net rows) i ≡ None
earlier net rows bounds len n first i low = go (slice_get bounds i) refl
  where
    go : (o : Option Bound) → slice_get bounds i ≡ o → option_map_or (λ b. bound_not_shown net rows b i) o None ≡ None
    go None e = refl
    go (Some b) e = not_shown net rows i b false (first.before i b low e)

-- what is found there is the first refusal
pub unshown_found : (net : Network) (rows : List lists.Row) (bounds : List Bound) (n : ℕ) (b : Bound) → IsFirstBefore bounds (is_unshown net rows) (length bounds) n → slice_get bounds n ≡ Some b →
    first_in bounds (bound_not_shown net rows) ≡ Some (record { number = BoundNotShown; subject = Instance b.reader b.key })
unshown_found net rows bounds n b first at =
    first_in_found bounds (bound_not_shown net rows) n n b _ refl at
    (first_below_all (at_item bounds (bound_not_shown net rows)) n (earlier net rows bounds (length bounds) n first))
    (not_shown net rows n b true (first.here b (slice_get_within bounds n b at) at))

-- past the last bound none is refused
pub none_unshown : (net : Network) (rows : List lists.Row) (bounds : List Bound) (n : ℕ) → IsFirstBefore bounds (is_unshown net rows) (length bounds) n → length bounds ≤ n → first_in bounds (bound_not_shown net rows) ≡ None
none_unshown net rows bounds n first past =
    let low = first.within in
    first_below_all (at_item bounds (bound_not_shown net rows)) (length bounds) (λ i l. earlier net rows bounds (length bounds) n first i (omega arith))
