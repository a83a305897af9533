use Rattle.std.proofs.Common.{◌≢◌, ◌<◌, ℕ}
use Rattle.dds_text.specs.Names.{rule_text}
use Rattle.dds_events.proofs.kinds.rule_of.Given as goal

-- none of the rules so far has the text
abbrev pub invariant-loop-number : goal.invariant-loop-number
invariant-loop-number l = (u : ℕ) → u < l.number → rule_text l.lists u ≢ l.text
