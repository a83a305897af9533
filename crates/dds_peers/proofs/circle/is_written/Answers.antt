use Rattle.std.proofs.Common.{◌≡◌, ℕ, true, false, ap, slice_get, Some, sym, ◌∙◌}
use Rattle.std.specs.Prelude.{◌==◌, ◌&&◌}
use Rattle.std.specs.List.{list_any}
use Rattle.dds_base.specs.declared.portion.Portion.{Portion}
use Rattle.dds_lists.specs.Lists.{Rule}
use Rattle.dds_lists.specs.Views.{rule_view}
use Rattle.dds_peers.proofs.CircleLists.{any_at, none_more, both_pass, first_fails, second_fails}
use Rattle.dds_peers.proofs.circle.is_written.Goals as goal
use Rattle.dds_peers.proofs.circle.is_written.Goals.{else-eq-via-then-eq+else-has_portion, else-eq-via-else-eq}

pub returns-then-has_portion : goal.returns-then-has_portion
returns-then-has_portion c =
    let named = λ (p : Portion ℕ). (p.endpoint == c.args.writer) && (p.key == c.args.key) in
    let test = λ (x : Rule). (x.application == c.args.app) && list_any named x.writes in
    let written : list_any named c.rule-rule.result.now.writes.items ≡ true = sym (ap (list_any named) c.as_slice.ensures.value) ∙ (sym c.has_portion.ensures ∙ c.if-has_portion.true) in
    let passes : test (rule_view c.rule-rule.result.now) ≡ true = both_pass _ _ (sym c.eq.ensures ∙ c.if-eq.true) written in
    sym (any_at test c.args.lists.now.rules.entries _ _ c.rule-rule.ensures passes)

pub loop-rule-preserved : goal.loop-rule-preserved
loop-rule-preserved c =
    let named = λ (p : Portion ℕ). (p.endpoint == c.args.writer) && (p.key == c.args.key) in
    let test = λ (x : Rule). (x.application == c.args.app) && list_any named x.writes in
    let at : slice_get c.args.lists.now.rules.entries c.loop-rule.rule ≡ Some (rule_view c.rule-rule.result.now) = ap (slice_get c.args.lists.now.rules.entries) (sym c.new.ensures) ∙ c.rule-rule.ensures in
    let fails : test (rule_view c.rule-rule.result.now) ≡ false = elim c.else-eq.branch [
      | else-eq-via-then-eq+else-has_portion w ↦ second_fails _ _ (sym c.eq.ensures ∙ w.if-eq.true) (sym (ap (list_any named) w.as_slice.ensures.value) ∙ (sym w.has_portion.ensures ∙ w.if-has_portion.false))
      | else-eq-via-else-eq w ↦ first_fails _ _ (sym c.eq.ensures ∙ w.if-eq.false)
    ] in
    none_more test c.args.lists.now.rules.entries c.loop-rule.rule _ at c.loop-rule.invariant fails
