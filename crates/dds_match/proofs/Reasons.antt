-- The reasons of all pairs, place by place.
use Rattle.std.proofs.Common.{◌≡◌, ℕ, ◌+◌, ◌*◌, ◌/◌, ◌%◌, ◌<◌, ◌≤◌, List, [], ◌∷◌, ◌++◌, length, get_or, Option, None, ◌∙◌, ap, arith, below_more}
use Rattle.std.proofs.lemmas.List.{get_or_append_left, get_or_push}
use Rattle.dds_lists.specs.Lists.{Lists}
use Rattle.dds_match.specs.Matching.{why_not}
use Rattle.dds_match.specs.Tables.{reason_at}
use Rattle.dds_match.specs.declared.matching.WhyNot.{WhyNot}

pub one_more : (d : Lists) (old new : List (Option WhyNot)) (place : ℕ) (x : Option WhyNot) → length old ≡ place → new ≡ old ++ x ∷ [] → x ≡ why_not d (place / 256) (place % 256)
    → ((n : ℕ) → n < place → get_or old n None ≡ why_not d (n / 256) (n % 256)) → (n : ℕ) → n < place + 1 → get_or new n None ≡ why_not d (n / 256) (n % 256)
one_more d old new place x size joined at before = below_more (λ n. get_or new n None ≡ why_not d (n / 256) (n % 256)) place
    (λ n below. let within : n < length old = omega arith in ap (λ xs. get_or xs n None) joined ∙ get_or_append_left old (x ∷ []) None n within ∙ before n below)
    (ap (λ xs. get_or xs place None) joined ∙ get_or_push old x None place size ∙ at)

pub by_rows : (d : Lists) (reasons : List (Option WhyNot)) (places : ℕ) → length d.writers.entries * 256 ≤ places
    → ((n : ℕ) → n < places → get_or reasons n None ≡ why_not d (n / 256) (n % 256)) → (w r : ℕ) → w < length d.writers.entries → r < 256 → reason_at reasons w r ≡ why_not d w r
by_rows d reasons places all each w r writer reader =
    let row : (w * 256 + r) / 256 ≡ w = omega arith in
    let column : (w * 256 + r) % 256 ≡ r = omega arith in
    each (w * 256 + r) (omega arith) ∙ ap (λ i. why_not d i ((w * 256 + r) % 256)) row ∙ ap (why_not d w) column
