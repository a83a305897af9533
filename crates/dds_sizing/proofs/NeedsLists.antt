-- What is needed, size by size and key by key.
use Rattle.std.proofs.Common.{ℕ, suc, ◌≡◌, ◌+◌, ◌<◌, ◌≤◌, List, Option, drop, flat_map, get_or, length, sym, ap, ◌∙◌, add-one}
use Rattle.std.specs.List.{range_with_len}
use Rattle.std.proofs.Math.Seq.{drop-cons}
use Rattle.std.proofs.lemmas.List.{drop_all}
use Rattle.dds_match.specs.Network.{Network}
use Rattle.dds_search.specs.declared.answer.Least.{Least}
use Rattle.dds_search.specs.declared.certificate.sizes.Size.{Size}
use Rattle.dds_sizing.specs.Needs.{depth_need, greatest_of, list_of, with_size, writer_needs}

-- the greatest with the next size
pub next_greatest : (net : Network) (w k : ℕ) (greatest new whole : Option Least) (sizes : List Size) (i : ℕ) (size : Size) → i < length sizes → size ≡ get_or sizes i size
    → new ≡ with_size net w k greatest size → greatest_of net w k greatest (drop i sizes) ≡ whole → greatest_of net w k new (drop (i + 1) sizes) ≡ whole
unfolding greatest_of
next_greatest net w k greatest new whole sizes i size lt at is before =
    ap (λ n. greatest_of net w k new (drop n sizes)) (add-one i)
    ∙ (ap (λ g. greatest_of net w k g (drop (suc i) sizes)) (is ∙ ap (with_size net w k greatest) at)
    ∙ (sym (ap (greatest_of net w k greatest) (drop-cons sizes i size lt)) ∙ before))

-- with the last
pub last_greatest : (net : Network) (w k : ℕ) (greatest whole : Option Least) (sizes : List Size) (i : ℕ) → length sizes ≤ i → greatest_of net w k greatest (drop i sizes) ≡ whole → greatest ≡ whole
unfolding greatest_of
last_greatest net w k greatest whole sizes i all before = sym (ap (greatest_of net w k greatest) (drop_all i sizes all)) ∙ before

-- what a writer needs of all keys
pub all_needs : (net : Network) (sizes : List Size) (w n : ℕ) → n ≡ net.keys → flat_map (λ k. list_of (depth_need net sizes w k)) (range_with_len 0 n) ≡ writer_needs net sizes w
unfolding writer_needs
all_needs net sizes w n all = ap (λ m. flat_map (λ k. list_of (depth_need net sizes w k)) (range_with_len 0 m)) all
