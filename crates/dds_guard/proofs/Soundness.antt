-- What every guard keeps, and what it gives: that a rule which serves a write can be fired, and gives a permit.
use Rattle.std.proofs.Common.{◌≡◌, ℕ, zero, suc, ◌<◌, ◌≤◌, ◌&&◌, Bool, true, false, not, List, [], ◌∷◌, length, get_or, slice_get, unwrap_or, Option, None, refl, sym, ap, ◌∙◌, subst, inl, inr, arith}
use Rattle.std.specs.Prelude.{◌==◌}
use Rattle.std.proofs.lemmas.Bool.{and_parts, cases_Bool, false≢true}
use Rattle.std.proofs.lemmas.Option.{unwrap_or-slice_get}
use Rattle.dds_base.specs.declared.portion.Portion.{Portion}
use Rattle.dds_match.specs.Network.{is_named, named}
use Rattle.dds_rules.specs.Counts.{count_at}
use Rattle.dds_rules.specs.Exchange.{Exchange, lacks_takes, lacks_room}
use Rattle.dds_rules.specs.Ledger.{LedgerState, KeepsPlan, fire_refusal, no_exchange}
use Rattle.dds_guard.specs.declared.account.Payment.{Payment}
use Rattle.dds_guard.specs.Guard.{AreCounted, GuardState, IsSound, RuleState, exchange_in, no_rule_state, rule_at}
use Rattle.dds_guard.specs.Refusals.{IsServing, can_fire, serves}

-- a guard whose ledger keeps the plan is sound
pub sound_after : (old : GuardState) (l : LedgerState) (held : Option Payment) → KeepsPlan old.ledger l → IsSound old → IsSound (record old { ledger = l; held = held })
sound_after old l held plan sound = record {
  filters = sound.filters ∙ sym plan.readers;
  rules = λ u. ap (λ xs. unwrap_or (slice_get xs u) no_exchange) plan.rules ∙ sound.rules u;
  takes_alone = sound.takes_alone;
  writes_alone = sound.writes_alone;
  counted = sound.counted;
}

-- ── one rule
there : {A : Type 0} (xs : List A) (n : ℕ) (x d : A) → n < length xs → x ≡ get_or xs n x → get_or xs n d ≡ x
there [] n x d within at = absurd (omega arith)
there (y ∷ ys) zero x d within at = sym at
there (y ∷ ys) (suc n) x d within at = there ys n x d (omega arith) at

pub rule_is : (xs : List RuleState) (n : ℕ) (x : RuleState) → n < length xs → x ≡ get_or xs n x → rule_at xs n ≡ x
rule_is xs n x within at = unwrap_or-slice_get xs n no_rule_state ∙ there xs n x no_rule_state within at

off : (b : Bool) → not b ≡ true → b ≡ false
off true e = absurd cc
off false e = refl

can : (g : GuardState) → IsSound g → (n : ℕ) (x : RuleState) → rule_at g.rules n ≡ x → can_fire g.ledger x ≡ true → fire_refusal g.ledger n ≡ None
can g sound n x at fires =
    let both = and_parts _ _ fires in
    let is = sound.rules n ∙ ap exchange_in at in
    let takes = ap (λ (y : Exchange). lacks_takes (count_at g.ledger.spare) y.takes) is ∙ off _ both.0 in
    let room = ap (λ (y : Exchange). lacks_room (count_at g.ledger.permits) y.writes) is ∙ off _ both.1 in
    rw (takes, room) refl

named_some : (es : List (Portion ℕ)) (w k : ℕ) → is_named es w k ≡ true → AreCounted es → 1 ≤ named es w k
named_some [] w k is all = absurd (false≢true is)
named_some (e ∷ es) w k is all = elim (cases_Bool ((e.endpoint == w) && (e.key == k))) [
  | inl here ↦ (let one : 1 ≤ e.count = all 0 e (omega arith) in rw here (omega arith))
  | inr other ↦ (let rest = named_some es w k (rw other at is) (λ n d within. all (suc n) d (omega arith)) in rw other (omega arith))
]

-- a rule of the guard that serves a write
pub is_serving : (g : GuardState) → IsSound g → (w k n : ℕ) (x : RuleState) → n < length g.rules → x ≡ get_or g.rules n x → serves g.ledger w k x ≡ true → IsServing g w k n
is_serving g sound w k n x within at passes =
    let own = and_parts _ _ passes in
    let both = and_parts _ _ own.1 in
    let is = rule_is g.rules n x within at in
    let counted : AreCounted x.writes = subst (λ (y : RuleState). AreCounted y.writes) (sym at) (sound.counted n x within) in
    record {
      fires = can g sound n x is both.1;
      gives = subst (λ (y : Exchange). 1 ≤ named y.writes w k) (sym (sound.rules n ∙ ap exchange_in is)) (named_some x.writes w k both.0 counted);
    }
