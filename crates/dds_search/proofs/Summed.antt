-- The sum of the bounds of a reader's keys, size by size.
use Rattle.std.proofs.Common.{ℕ, suc, ◌≡◌, ◌+◌, ◌<◌, ◌≤◌, List, Option, drop, get_or, length, sym, ap, ◌∙◌, add-one}
use Rattle.std.proofs.Math.Seq.{drop-cons}
use Rattle.std.proofs.lemmas.List.{drop_all}
use Rattle.dds_search.specs.Sizes.{sum_of, with_size}
use Rattle.dds_search.specs.declared.certificate.sizes.Size.{Size}

-- with the next size
pub next_summed : (r : ℕ) (sum new whole : Option ℕ) (sizes : List Size) (i : ℕ) (size : Size) → i < length sizes → size ≡ get_or sizes i size → new ≡ with_size r sum size
    → sum_of r sum (drop i sizes) ≡ whole → sum_of r new (drop (i + 1) sizes) ≡ whole
unfolding sum_of
next_summed r sum new whole sizes i size lt at is before =
    ap (λ n. sum_of r new (drop n sizes)) (add-one i)
    ∙ (ap (λ s. sum_of r s (drop (suc i) sizes)) (is ∙ ap (with_size r sum) at)
    ∙ (sym (ap (sum_of r sum) (drop-cons sizes i size lt)) ∙ before))

-- with the last
pub last_summed : (r : ℕ) (sum whole : Option ℕ) (sizes : List Size) (i : ℕ) → length sizes ≤ i → sum_of r sum (drop i sizes) ≡ whole → sum ≡ whole
unfolding sum_of
last_summed r sum whole sizes i all before = sym (ap (sum_of r sum) (drop_all i sizes all)) ∙ before
