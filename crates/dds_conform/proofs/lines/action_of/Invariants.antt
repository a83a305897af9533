use Rattle.std.proofs.Common.{◌≢◌, ◌<◌, ℕ}
use Rattle.dds_conform.specs.declared.actions.Action.{Action}
use Rattle.dds_conform.specs.Actions.{IsThere, action_text}
use Rattle.dds_conform.proofs.lines.action_of.Given as goal

-- no application so far
abbrev pub invariant-loop-number : goal.invariant-loop-number
invariant-loop-number l = (a : ℕ) → a < l.number → (x : Action) → IsThere l.lists x → action_text l.lists a x ≢ l.text
