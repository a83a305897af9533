-- How a permit that is held counts.
use Rattle.std.proofs.Common.{◌≡◌, ℕ, ◌+◌, ◌-◌, ◌<◌, ◌≤◌, ◌&&◌, true, Option, Some, None, Result, Ok, Err, OnOk, OnErr, refl, sym, ap, ◌∙◌, subst, inl, inr, arith}
use Rattle.std.specs.Prelude.{◌==◌}
use Rattle.std.proofs.lemmas.Bool.{and_parts, cases_Bool, eqb-true, false≢true}
use Rattle.dds_rules.specs.Counts.{CountTable, IsMoreBy, count_at, only_at}
use Rattle.dds_rules.specs.Ledger.{LedgerState, KeepsPlan}
use Rattle.dds_guard.specs.declared.account.Payment.{Payment}
use Rattle.dds_guard.specs.Account.{AccountState, IsBacked, IsCharged, is_held, left, payment, used_by}

-- no more is held than there is
pub enough_held : (t : CountTable) (held : Option Payment) (w k : ℕ) → IsBacked t held → used_by held w k ≤ count_at t w k
enough_held t None w k backed = omega arith
enough_held t (Some p) w k backed = elim (cases_Bool ((p.writer == w) && (p.key == k))) [
  | inl here ↦ (
      let same = and_parts _ _ here in
      let there : 0 < count_at t w k = subst (λ i. 0 < count_at t i k) (eqb-true _ _ same.0) (subst (λ l. 0 < count_at t p.writer l) (eqb-true _ _ same.1) backed) in
      rw here (omega arith))
  | inr other ↦ rw other (omega arith)
]

-- where permits are given, what is held is still there, and as many more are left
pub still_backed : (f : ℕ → ℕ → ℕ) (a b : CountTable) (held : Option Payment) → IsMoreBy f a b → IsBacked a held → IsBacked b held
still_backed f a b None more backed = tt
still_backed f a b (Some p) more backed = let now = more.counts p.writer p.key in omega arith

pub more_left : (f : ℕ → ℕ → ℕ) (a b : CountTable) (held : Option Payment) → IsMoreBy f a b → IsBacked a held
    → (w k : ℕ) → count_at b w k - used_by held w k ≡ (count_at a w k - used_by held w k) + f w k
more_left f a b held more backed w k = let now = more.counts w k in let enough = enough_held a held w k backed in omega arith

-- the same of a firing, which gives permits or changes nothing
pub fired_backed : {A B : Type 0} (f : ℕ → ℕ → ℕ) (old new : LedgerState) (held : Option Payment) (r : Result A B) → OnOk r (IsMoreBy f old.permits new.permits) → OnErr r (new ≡ old)
    → IsBacked old.permits held → IsBacked new.permits held
fired_backed f old new held (Ok x) more same backed = still_backed f old.permits new.permits held more backed
fired_backed f old new held (Err e) more same backed = subst (λ (l : LedgerState). IsBacked l.permits held) (sym same) backed

pub fired_left : {A B : Type 0} (f : ℕ → ℕ → ℕ) (old new : LedgerState) (held : Option Payment) (r : Result A B) → OnOk r (IsMoreBy f old.permits new.permits) → IsBacked old.permits held
    → OnOk r ((w k : ℕ) → count_at new.permits w k - used_by held w k ≡ (count_at old.permits w k - used_by held w k) + f w k)
fired_left f old new held (Ok x) more backed = more_left f old.permits new.permits held more backed
fired_left f old new held (Err e) more backed = tt

-- a permit that is held is taken off
pub settled : (a b : CountTable) (p : Payment) → IsMoreBy (only_at p.writer p.key 1) b a → (w k : ℕ) → count_at b w k ≡ count_at a w k - used_by (Some p) w k
settled a b p fewer w k = let now = fewer.counts w k in omega arith

-- another one is held, of those that are left
pub charged : (f : ℕ → ℕ → ℕ) (w k : ℕ) → 0 < f w k → (i l : ℕ) → f i l ≡ (f i l - used_by (Some (payment w k)) i l) + only_at w k 1 i l
charged f w k some i l = elim (cases_Bool ((w == i) && (k == l))) [
  | inl here ↦ (
      let same = and_parts _ _ here in
      let there : 0 < f i l = subst (λ j. 0 < f j l) (eqb-true _ _ same.0) (subst (λ m. 0 < f w m) (eqb-true _ _ same.1) some) in
      rw here (omega arith))
  | inr other ↦ rw other (omega arith)
]

-- the permit that is held is given back
held_is : (held : Option Payment) (w k : ℕ) → is_held held w k ≡ true → held ≡ Some (payment w k)
held_is None w k is = absurd (false≢true is)
held_is (Some p) w k is = let same = and_parts _ _ is in ap (λ i. Some (payment i p.key)) (eqb-true _ _ same.0) ∙ ap (λ l. Some (payment w l)) (eqb-true _ _ same.1)

pub given_back : (old new : AccountState) (w k : ℕ) → IsBacked old.ledger.permits old.held → is_held old.held w k ≡ true → new.ledger ≡ old.ledger → new.held ≡ None → IsCharged w k new old
given_back old new w k backed is ledger none =
    let held = held_is old.held w k is in
    record {
      permits = λ i l. (
          let before : left new i l ≡ count_at old.ledger.permits i l - used_by None i l = ap (λ (t : LedgerState). count_at t.permits i l - used_by new.held i l) ledger ∙ ap (λ (h : Option Payment). count_at old.ledger.permits i l - used_by h i l) none in
          let now : left old i l ≡ count_at old.ledger.permits i l - used_by (Some (payment w k)) i l = ap (λ (h : Option Payment). count_at old.ledger.permits i l - used_by h i l) held in
          let some : 0 < count_at old.ledger.permits w k = subst (IsBacked old.ledger.permits) held backed in
          let one = charged (count_at old.ledger.permits) w k some i l in
          omega arith);
      spare = ap (λ (t : LedgerState). t.spare) (sym ledger);
      plan = record { rules = ap (λ (t : LedgerState). t.rules) (sym ledger); writers = ap (λ (t : LedgerState). t.permits.endpoints) (sym ledger); readers = ap (λ (t : LedgerState). t.spare.endpoints) (sym ledger) };
      held = held;
    }

pub charged_by : (old inside : AccountState) (l : LedgerState) (w k : ℕ) → inside ≡ old → 0 < left old w k → ((i j : ℕ) → count_at l.permits i j ≡ count_at inside.ledger.permits i j - used_by inside.held i j)
    → l.spare ≡ inside.ledger.spare → KeepsPlan inside.ledger l → IsCharged w k old (record { ledger = l; held = Some (payment w k) })
charged_by old inside l w k view some permits spare plan = subst (λ (a : AccountState). IsCharged w k a (record { ledger = l; held = Some (payment w k) })) view (record {
  permits = λ i j. (
      let now = permits i j in
      let there : 0 < left inside w k = subst (λ (a : AccountState). 0 < left a w k) (sym view) some in
      let one = charged (left inside) w k there i j in
      let used : count_at l.permits i j - used_by (Some (payment w k)) i j ≡ left inside i j - used_by (Some (payment w k)) i j = ap (λ n. n - used_by (Some (payment w k)) i j) now in
      omega arith);
  spare = spare;
  plan = plan;
  held = refl;
})
