use Rattle.std.proofs.Common.{◌≡◌, ℕ, ◌+◌, ◌*◌, ◌^◌, ◌<◌, drop, get_or, length, not, None}
use Rattle.dds_lists.specs.Views.{rule_view}
use Rattle.dds_runs.specs.First.{is_empty}
use Rattle.dds_check.specs.Permits.{AreAtMost, with_rule}
use Rattle.dds_check.proofs.Permitted.{with_portions}
use Rattle.dds_check.proofs.permits.add_rule.Given as goal

-- what the portions so far permit, and the rest
abbrev pub invariant-loop-portion : goal.invariant-loop-portion
invariant-loop-portion l = record {
  size : length l.cells ≡ 64;
  each : (k : ℕ) → k < 64 → with_portions (not (is_empty l.rule.takes.items)) l.rule.start (drop l.portion-index l.rule.writes.items) l.writer k (get_or l.cells k None)
      ≡ with_rule (rule_view l.rule) l.writer k (get_or l.initial.cells k None);
  small : (most : ℕ) → AreAtMost most l.initial.cells → AreAtMost (most + l.portion-index * 2 ^ 32) l.cells;
}
