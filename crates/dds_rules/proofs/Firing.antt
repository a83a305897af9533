-- The rule that a ledger fires.
use Rattle.std.proofs.Common.{◌≡◌, ℕ, zero, suc, ◌+◌, ◌*◌, ◌<◌, ◌≤◌, ◌^◌, Bool, true, false, cond, List, [], ◌∷◌, All, length, get_or, Some, None, unwrap_or, refl, sym, ap, ◌∙◌, subst, arith, inl, inr}
use Rattle.std.proofs.lemmas.Bool.{cases_lt}
use Rattle.std.proofs.lemmas.Option.{unwrap_or-slice_get, slice_get_past}
use Rattle.dds_base.specs.declared.portion.Portion.{Portion}
use Rattle.dds_match.specs.Network.{named}
use Rattle.dds_rules.specs.declared.refused.FireRefused.TheVariants.{NotEnough, CountLimit}
use Rattle.dds_rules.specs.Counts.{CountTable, IsMoreBy, count_at}
use Rattle.dds_rules.specs.Exchange.{Exchange, IsExchange, lacks_takes, lacks_room}
use Rattle.dds_rules.specs.Ledger.{LedgerState, IsSound, exchange_at, fire_refusal, no_exchange}
use Rattle.dds_rules.proofs.CountLaws.{more_as}
use Rattle.dds_rules.proofs.PortionLaws.{enough, room}

-- ── no such rule
pub no_rule_there : (s : LedgerState) (u : ℕ) → length s.rules ≤ u → Some NotEnough ≡ fire_refusal s u
no_rule_there s u past =
    let none : exchange_at s u ≡ no_exchange = ap (λ o. unwrap_or o no_exchange) (slice_get_past s.rules u past) in
    rw none refl

-- a rule that is not refused is there
pub fired_there : (s : LedgerState) (u : ℕ) → fire_refusal s u ≡ None → u < length s.rules
fired_there s u fires = elim (cases_lt u (length s.rules)) [ inl within ↦ within | inr past ↦ absurd (some_not (no_rule_there s u past ∙ fires)) ]
  where
    some_not : Some NotEnough ≡ None → ⊥
    some_not e = cc

pub fired_within : (inside state : LedgerState) (u n : ℕ) → inside ≡ state → n ≡ u → fire_refusal state u ≡ None → n < length inside.rules
fired_within inside state u n view number fires =
    let there = fired_there state u fires in let same = ap (λ (s : LedgerState). length s.rules) view in omega arith

-- it lacks neither takes nor room
pub fired_lacks : (s : LedgerState) (u : ℕ) → fire_refusal s u ≡ None
    → (lacks_takes (count_at s.spare) (exchange_at s u).takes ≡ false) × (lacks_room (count_at s.permits) (exchange_at s u).writes ≡ false)
fired_lacks s u = go (lacks_takes (count_at s.spare) (exchange_at s u).takes) (lacks_room (count_at s.permits) (exchange_at s u).writes)
  where
    go : (takes room : Bool) → cond takes (Some NotEnough) (cond room (Some CountLimit) None) ≡ None → (takes ≡ false) × (room ≡ false)
    go true room e = absurd cc
    go false true e = absurd cc
    go false false e = (refl, refl)

-- ── the rule itself
-- element n of the ledger's rules is x, which is what rule u of the state is
pub record IsRule (inside state : LedgerState) (u n : ℕ) (x : Exchange) : Type 0 where
  pub view : inside ≡ state
  pub sound : IsSound inside
  pub number : n ≡ u
  pub within : n < length inside.rules
  pub at : x ≡ get_or inside.rules n x

there : {A : Type 0} (xs : List A) (n : ℕ) (x d : A) → n < length xs → x ≡ get_or xs n x → get_or xs n d ≡ x
there [] n x d within at = absurd (omega arith)
there (y ∷ ys) zero x d within at = sym at
there (y ∷ ys) (suc n) x d within at = there ys n x d (omega arith) at

rule_is : (inside state : LedgerState) (u n : ℕ) (x : Exchange) → IsRule inside state u n x → exchange_at state u ≡ x
rule_is inside state u n x r =
    sym (ap (λ s. exchange_at s u) r.view) ∙ sym (ap (exchange_at inside) r.number) ∙ unwrap_or-slice_get inside.rules n no_exchange ∙ there inside.rules n x no_exchange r.within r.at

pub placed : (inside state : LedgerState) (u n : ℕ) (x : Exchange) → IsRule inside state u n x → IsExchange inside.permits.endpoints inside.spare.endpoints x
placed inside state u n x r = subst (IsExchange inside.permits.endpoints inside.spare.endpoints) (sym r.at) (r.sound n x r.within)

pub takes_are : (inside state : LedgerState) (u n : ℕ) (x : Exchange) → IsRule inside state u n x → (es : List (Portion ℕ)) → es ≡ x.takes → es ≡ (exchange_at state u).takes
takes_are inside state u n x r es is = is ∙ sym (ap (λ (y : Exchange). y.takes) (rule_is inside state u n x r))

pub writes_are : (inside state : LedgerState) (u n : ℕ) (x : Exchange) → IsRule inside state u n x → (es : List (Portion ℕ)) → es ≡ x.writes → es ≡ (exchange_at state u).writes
writes_are inside state u n x r es is = is ∙ sym (ap (λ (y : Exchange). y.writes) (rule_is inside state u n x r))

-- ── the refusal, as the code finds it
lacks_takes_at : (inside state : LedgerState) (u n : ℕ) (x : Exchange) → IsRule inside state u n x → (es : List (Portion ℕ)) → es ≡ x.takes
    → lacks_takes (count_at state.spare) (exchange_at state u).takes ≡ lacks_takes (count_at inside.spare) es
lacks_takes_at inside state u n x r es is =
    sym (ap (λ (s : LedgerState). lacks_takes (count_at s.spare) es) r.view ∙ ap (lacks_takes (count_at state.spare)) (takes_are inside state u n x r es is))

lacks_room_at : (inside state : LedgerState) (u n : ℕ) (x : Exchange) → IsRule inside state u n x → (es : List (Portion ℕ)) → es ≡ x.writes
    → lacks_room (count_at state.permits) (exchange_at state u).writes ≡ lacks_room (count_at inside.permits) es
lacks_room_at inside state u n x r es is =
    sym (ap (λ (s : LedgerState). lacks_room (count_at s.permits) es) r.view ∙ ap (lacks_room (count_at state.permits)) (writes_are inside state u n x r es is))

pub takes_lacked : (inside state : LedgerState) (u n : ℕ) (x : Exchange) → IsRule inside state u n x → (es : List (Portion ℕ)) → es ≡ x.takes → lacks_takes (count_at inside.spare) es ≡ true
    → Some NotEnough ≡ fire_refusal state u
takes_lacked inside state u n x r es is lacks = let e = lacks_takes_at inside state u n x r es is ∙ lacks in rw e refl

pub room_lacked : (inside state : LedgerState) (u n : ℕ) (x : Exchange) → IsRule inside state u n x → (es fs : List (Portion ℕ)) → es ≡ x.takes → fs ≡ x.writes
    → lacks_takes (count_at inside.spare) es ≡ false → (b : Bool) → lacks_room (count_at inside.permits) fs ≡ b → cond b (Some CountLimit) None ≡ fire_refusal state u
room_lacked inside state u n x r es fs is its takes b lacks =
    let e = lacks_takes_at inside state u n x r es is ∙ takes in
    let f = lacks_room_at inside state u n x r fs its ∙ lacks in
    rw (e, f) refl

-- ── what a firing may do
pub needs_there : (inside state : LedgerState) (u n : ℕ) (x : Exchange) → IsRule inside state u n x → (es : List (Portion ℕ)) → es ≡ x.takes → fire_refusal state u ≡ None
    → (i k : ℕ) → named es i k ≤ count_at inside.spare i k
needs_there inside state u n x r es is fires = enough (count_at inside.spare) es (sym (lacks_takes_at inside state u n x r es is) ∙ (fired_lacks state u fires).0)

pub gives_fit : (inside state : LedgerState) (u n : ℕ) (x : Exchange) → IsRule inside state u n x → (es : List (Portion ℕ)) → es ≡ x.writes → fire_refusal state u ≡ None
    → All (λ (e : Portion ℕ). count_at inside.permits e.endpoint e.key + named es e.endpoint e.key * 1 < 2 ^ 64) es
gives_fit inside state u n x r es is fires = room (count_at inside.permits) es (sym (lacks_room_at inside state u n x r es is) ∙ (fired_lacks state u fires).1)

-- ── what a firing changes
pub takes_spent : (inside state : LedgerState) (u n : ℕ) (x : Exchange) → IsRule inside state u n x → (es : List (Portion ℕ)) → es ≡ x.takes → (new : CountTable)
    → IsMoreBy (named es) new inside.spare → IsMoreBy (named (exchange_at state u).takes) new state.spare
takes_spent inside state u n x r es is new spent = subst (λ (s : LedgerState). IsMoreBy (named (exchange_at state u).takes) new s.spare) r.view
    (more_as new inside.spare (named es) (named (exchange_at state u).takes) (λ i k. ap (λ fs. named fs i k) (takes_are inside state u n x r es is)) spent)

pub writes_given : (inside state : LedgerState) (u n : ℕ) (x : Exchange) → IsRule inside state u n x → (es : List (Portion ℕ)) → es ≡ x.writes → (new : CountTable)
    → IsMoreBy (λ i k. named es i k * 1) inside.permits new → IsMoreBy (named (exchange_at state u).writes) state.permits new
writes_given inside state u n x r es is new given = subst (λ (s : LedgerState). IsMoreBy (named (exchange_at state u).writes) s.permits new) r.view
    (more_as inside.permits new (λ i k. named es i k * 1) (named (exchange_at state u).writes)
    (λ i k. let same = ap (λ fs. named fs i k) (writes_are inside state u n x r es is) in omega arith) given)
