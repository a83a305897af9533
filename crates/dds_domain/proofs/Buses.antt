-- The bus stands for the world's.
use Rattle.std.proofs.Common.{◌≡◌, inl, inr, ℕ, zero, suc, ◌+◌, ◌<◌, ◌≤◌, Bool, true, false, cond, not, ltb, List, [], ◌∷◌, length, Option, Some, None, set, refl, sym, ap, subst, ◌∙◌, arith, length-set}
use Rattle.std.specs.Prelude.{◌-◌, is_none, is_some, position}
use Rattle.std.specs.List.{position_or_len}
use Rattle.std.proofs.lemmas.Bool.{cases_eq, cases_lt, cond-true, lt-ltb, both_ways}
use Rattle.std.proofs.lemmas.List.Quantifiers.{position-Some}
use Rattle.std.proofs.lemmas.List.{get_or-set_same, get_or-set_other}
use Rattle.dds_base.specs.Sums.{put, least}
use Rattle.dds_base.proofs.SumLaws.{put_at, put_other, least_same}
use Rattle.dds_base.specs.declared.messages.Packet.{Packet}
use Rattle.dds_runs.specs.World.{World}
use Rattle.dds_runs.specs.Steps.{places, free_place, sent_place, put_packet, is_none_of}
use Rattle.dds_domain.specs.Bus.{at_place, free_above, last_taken, sent_to, taken_count, with_packet}
use Rattle.dds_domain.specs.Schedule.{is_taken, load, lowest, highest}
use Rattle.dds_domain.specs.Standing.{BusStands}
use Rattle.dds_domain.proofs.Counting.{count_same}
use Rattle.dds_domain.proofs.BusTurns.{lowest_within, highest_within}

beyond : (held : List (Option Packet)) (i : ℕ) → length held ≤ i → at_place held i ≡ None
beyond [] i b = refl
beyond (s ∷ ss) zero b = absurd (omega arith)
beyond (s ∷ ss) (suc i) b = beyond ss i (omega arith)

set_beyond : (held : List (Option Packet)) (i : ℕ) (o : Option Packet) → length held ≤ i → set held i o ≡ held
set_beyond [] i o b = refl
set_beyond (s ∷ ss) zero o b = absurd (omega arith)
set_beyond (s ∷ ss) (suc i) o b = ap (λ zs. s ∷ zs) (set_beyond ss i o (omega arith))

set_stands : (bus : ℕ → Option Packet) (held : List (Option Packet)) (i : ℕ) (o : Option Packet) → i < length held → BusStands bus held → BusStands (put bus i o) (set held i o)
set_stands bus held i o b h = record {
  whole = length-set held i o ∙ h.whole;
  same = λ j. elim (cases_eq i j) [
    | inl e ↦ subst (λ k. at_place (set held i o) k ≡ put bus i o k) e (get_or-set_same held i o None b ∙ sym (put_at bus i o))
    | inr ne ↦ get_or-set_other held i j o None (λ e. ne (sym e)) ∙ (h.same j ∙ sym (put_other bus i j o ne))
  ];
}

pub clear_stands : (bus : ℕ → Option Packet) (held : List (Option Packet)) (i : ℕ) → BusStands bus held → BusStands (put bus i None) (set held i None)
clear_stands bus held i h = elim (cases_lt i (length held)) [
  | inl lt ↦ set_stands bus held i None lt h
  | inr ge ↦ record {
    whole = length-set held i None ∙ h.whole;
    same = λ j. ap (λ ss. at_place ss j) (set_beyond held i None ge) ∙ elim (cases_eq i j) [
      | inl e ↦ subst (λ k. at_place held k ≡ put bus i None k) e (beyond held i ge ∙ sym (put_at bus i None))
      | inr ne ↦ h.same j ∙ sym (put_other bus i j None ne)
    ];
  }
]

-- ── what is sent
-- the first element of a list that passes stands at the least number that passes
first_is : (p : Option Packet → Bool) (q : ℕ → Bool) (held : List (Option Packet)) (from : ℕ) → ((i : ℕ) → p (at_place held i) ≡ q (from + i)) → from + position_or_len p held ≡ least q (length held) from
unfolding least
first_is p q [] from same = omega arith
first_is p q (s ∷ ss) from same = go (p s) (q from) refl refl (first_is p q ss (suc from) (λ i. same (suc i) ∙ ap q (omega arith)))
  where
    here : p s ≡ q from
    here = same 0 ∙ ap q (omega arith)

    go : (a b : Bool) → p s ≡ a → q from ≡ b → suc from + position_or_len p ss ≡ least q (length ss) (suc from) → from + cond (not a) (1 + position_or_len p ss) 0 ≡ cond b from (least q (length ss) (suc from))
    go true true x y rest = omega arith
    go false false x y rest = omega arith
    go true false x y rest = absurd (both_ways (q from) y (sym here ∙ x))
    go false true x y rest = absurd (both_ways (p s) x (here ∙ y))

pub same_none : {A : Type 0} (o : Option A) → is_none o ≡ is_none_of o
same_none None = refl
same_none (Some x) = refl

-- what is sent goes where the world's goes
pub sent_is : (v : World) (held : List (Option Packet)) → BusStands v.bus held → sent_to held ≡ sent_place v
sent_is v held h =
    let first = first_is is_none (λ i. is_none_of (v.bus i)) held 0 (λ i. same_none (at_place held i) ∙ ap is_none_of (h.same i ∙ ap v.bus (omega arith))) in
    let free : position_or_len is_none held ≡ free_place v = omega arith ∙ first ∙ ap (λ n. least (λ i. is_none_of (v.bus i)) n 0) h.whole in
    ap (λ n. cond (ltb n (length held)) (Some n) None) free ∙ ap (λ n. cond (ltb (free_place v) n) (Some (free_place v)) None) h.whole

pub send_stands : (v : World) (held : List (Option Packet)) (p : Packet) → BusStands v.bus held → BusStands (put_packet v.bus p (sent_place v)) (with_packet held p (sent_to held))
send_stands v held p h = subst (λ o. BusStands (put_packet v.bus p o) (with_packet held p (sent_to held))) (sent_is v held h) (go (sent_to held) refl)
  where
    go : (o : Option ℕ) → sent_to held ≡ o → BusStands (put_packet v.bus p o) (with_packet held p o)
    go None e = h
    go (Some i) e = set_stands v.bus held i (Some p) (position-Some is_none held i None e).0 h

-- ── what is taken
taken_there : (v : World) (held : List (Option Packet)) (i : ℕ) → BusStands v.bus held → is_some (at_place held i) ≡ is_taken v i
taken_there v held i h = some_is (at_place held i) ∙ ap (λ o. not (is_none_of o)) (h.same i)
  where
    some_is : (o : Option Packet) → is_some o ≡ not (is_none_of o)
    some_is None = refl
    some_is (Some p) = refl

-- as many places are taken as the world's bus has packets
pub load_is : (v : World) (held : List (Option Packet)) → BusStands v.bus held → taken_count held ≡ load v
load_is v held h = count_same (λ i. is_some (at_place held (0 + i))) (is_taken v) places (λ i l. taken_there v held (0 + i) h ∙ ap (is_taken v) (omega arith))

-- the first taken place is the world's lowest
pub lowest_is : (v : World) (held : List (Option Packet)) → BusStands v.bus held → 1 ≤ load v → position is_some held ≡ Some (lowest v)
lowest_is v held h some =
    let first = first_is is_some (is_taken v) held 0 (λ i. taken_there v held i h ∙ ap (is_taken v) (omega arith)) in
    let at : position_or_len is_some held ≡ lowest v = omega arith ∙ first ∙ ap (λ n. least (is_taken v) n 0) h.whole in
    ap (λ n. cond (ltb n (length held)) (Some n) None) at ∙ cond-true (ltb (lowest v) (length held)) (Some (lowest v)) None (lt-ltb (lowest v) (length held) (omega (arith, lowest_within v some, h.whole)))

-- the last taken place is the world's highest
pub highest_is : (v : World) (held : List (Option Packet)) → BusStands v.bus held → 1 ≤ load v → last_taken held ≡ Some (highest v)
highest_is v held h some =
    let back = λ (k : ℕ). is_taken v (places - 1 - k) in
    let same : free_above held ≡ least back places 0 = least_same (λ k. is_some (at_place held (places - 1 - k))) back places 0 (λ k. taken_there v held (places - 1 - k) h) in
    ap (λ n. cond (ltb n places) (Some (places - 1 - n)) None) same ∙ cond-true (ltb (least back places 0) places) (Some (highest v)) None (lt-ltb (least back places 0) places (highest_within v some))
