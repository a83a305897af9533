use Rattle.std.proofs.Common.{◌≡◌, ℕ, ◌+◌, ◌*◌, ◌^◌, ◌<◌, ◌≤◌, Bool, true, false, cond, not, ◌&&◌, Option, Some, None, get_or, refl, ap, sym, ◌∙◌, arith}
use Rattle.std.specs.Prelude.{unwrap_or}
use Rattle.std.proofs.lemmas.Bool.{and_parts, and_from, not-true}
use Rattle.dds_base.specs.Sums.{any_below, total}
use Rattle.dds_match.specs.Plan.{network_of}
use Rattle.dds_runs.proofs.Sums.{total_more}
use Rattle.dds_runs.specs.Accepted.{is_finite, opening_permits}
use Rattle.dds_check.specs.Limits.{gives_more, is_finite_within}
use Rattle.dds_check.specs.Permits.{all_permits}
use Rattle.dds_check.proofs.FirstLemmas.{all_below_fails, all_below_more}
use Rattle.dds_check.proofs.joins.written_in_all.Goals as goal

-- without a limit nothing is past it
no_limit : (b : Bool) → (b && true) ≡ false → b ≡ false
no_limit true h = h
no_limit false h = refl

no_limit_is : (b : Bool) → (b && true) ≡ true → b ≡ true
no_limit_is true h = refl
no_limit_is false h = h

pub returns-then-not-is_finite_within : goal.returns-then-not-is_finite_within
returns-then-not-is_finite_within c =
    let net = network_of c.args.plan.now in
    let w = c.args.writer in
    let k = c.loop-k.k in
    let low : k < 64 = omega arith in
    let within : ℕ → Bool = λ j. is_finite_within net w j None in
    let lacks : within k ≡ false = ap within (sym c.new.ensures) ∙ sym c.is_finite_within.ensures ∙ c.if-not-is_finite_within.true in
    rw (all_below_fails 64 (is_finite net w) k low (no_limit (is_finite net w k) lacks)) refl

pub loop-k-preserved : goal.loop-k-preserved
loop-k-preserved c =
    let net = network_of c.args.plan.now in
    let w = c.args.writer in
    let k = c.loop-k.k in
    let low : k < 64 = omega arith in
    let within : ℕ → Bool = λ j. is_finite_within net w j None in
    let stands : within k ≡ true = ap within (sym c.new.ensures) ∙ sym c.is_finite_within.ensures ∙ c.if-not-is_finite_within.false in
    let finite : is_finite net w k ≡ true = no_limit_is (is_finite net w k) stands in
    let gives : Bool = any_below net.rules (λ u. gives_more (net.rule u) w k) in
    let none : gives ≡ false = not-true gives (and_parts (not (net.free w k)) (not gives) finite).1 in
    let cell : get_or c.args.permits.now k None ≡ Some (opening_permits net w k) = c.requires.permits k low ∙ ap (λ b. cond b None (Some (opening_permits net w k))) none in
    let most = c.requires.small k (opening_permits net w k) cell in
    let more = total_more (opening_permits net w) k in
    let here : unwrap_or (get_or c.args.permits.now k None) 0 ≡ opening_permits net w k = ap (λ (o : Option ℕ). unwrap_or o 0) cell in
    let before = c.loop-k.invariant.sum in
    let small = c.loop-k.invariant.small in
    record {
      finite = all_below_more (is_finite net w) k ∙ and_from _ (is_finite net w k) c.loop-k.invariant.finite finite;
      sum = omega arith;
      small = omega arith;
    }
