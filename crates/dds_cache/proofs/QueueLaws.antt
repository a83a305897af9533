-- That no two samples have one writer and number, after a sample came or went.
use Rattle.std.proofs.Common.{◌≡◌, ℕ, ◌==◌, true, false, Option, None, Some, refl, sym, ap, ◌∙◌, inl, inr}
use Rattle.std.proofs.lemmas.Bool.{and_from, and_parts, eq-eqb, eqb-true, both_ways}
use Rattle.dds_base.specs.declared.sample.Sample.{Sample}
use Rattle.dds_qos.specs.Samples.{is_same}
use Rattle.dds_cache.specs.Order.{Places, Held, Samples, at, are_apart, held_at, place_of, sample_of, samples_of}
use Rattle.dds_cache.specs.Queues.{IsApart}
use Rattle.dds_cache.proofs.MapLaws.{none_some, some_same}
use Rattle.dds_cache.proofs.TicketLaws.{Changes, found_at}

-- no stored sample has the writer and number of x
abbrev pub IsNew : Samples → Sample → Type 0
IsNew samples x = (t : ℕ) (y : Sample) → at samples t ≡ Some y → is_same x y ≡ false

-- a sample has its own writer and number
pub same_itself : (x : Sample) → is_same x x ≡ true
same_itself x = and_from _ _ (eq-eqb x.writer x.writer refl) (eq-eqb x.sn x.sn refl)

-- the place of a new sample is free
pub place_free : (places : Places) (x : Sample) → are_apart places.entries ≡ true → IsNew (samples_of places) x → held_at places (place_of x) ≡ None
place_free places x apart new = go (held_at places (place_of x)) refl
  where
    go : (o : Option Held) → held_at places (place_of x) ≡ o → o ≡ None
    go None e = refl
    go (Some h) e =
        absurd (both_ways _ (new h.0 (sample_of (place_of x) h.1) (found_at places.entries (place_of x) h apart e))
        (and_from _ _ (eq-eqb x.writer x.writer refl) (eq-eqb x.sn x.sn refl)))

-- samples stay apart when a new one comes
pub apart_push : (m n : Samples) (t : ℕ) (x : Sample) → IsApart m → IsNew m x → Changes m n t (Some x) → IsApart n
apart_push m n t x apart new u i j y z first second same = elim (u i) [
  | inl g ↦ elim (u j) [
    | inl h ↦ sym g.0 ∙ h.0
    | inr h ↦ absurd (both_ways _ (new j z (sym h.1 ∙ second)) (ap (λ (a : Sample). is_same a z) (some_same g.1 first) ∙ same))
  ]
  | inr g ↦ elim (u j) [
    | inl h ↦ absurd (both_ways _ (new i y (sym g.1 ∙ first)) (turned y x (ap (λ (a : Sample). is_same y a) (some_same h.1 second) ∙ same)))
    | inr h ↦ apart i j y z (sym g.1 ∙ first) (sym h.1 ∙ second) same
  ]
]
  where
    turned : (a b : Sample) → is_same a b ≡ true → is_same b a ≡ true
    turned a b h =
        let parts = and_parts (b.writer == a.writer) (b.sn == a.sn) h in
        and_from _ _ (eq-eqb a.writer b.writer (sym (eqb-true b.writer a.writer parts.0))) (eq-eqb a.sn b.sn (sym (eqb-true b.sn a.sn parts.1)))

-- and when one goes
pub apart_remove : (m n : Samples) (t : ℕ) → IsApart m → Changes m n t None → IsApart n
apart_remove m n t apart u i j y z first second same = elim (u i) [
  | inl g ↦ absurd (none_some g.1 first)
  | inr g ↦ elim (u j) [
    | inl h ↦ absurd (none_some h.1 second)
    | inr h ↦ apart i j y z (sym g.1 ∙ first) (sym h.1 ∙ second) same
  ]
]
