use Rattle.std.proofs.Common.{ap, ◌∙◌}
use Rattle.dds_guard.specs.Guard.{rule_of_entry}
use Rattle.dds_guard.proofs.guard.Guard.rule.Goals as goal

pub returns-in-Some : goal.returns-in-Some
returns-in-Some c = c.first_of.ensures ∙ ap (rule_of_entry c.args.self.now.rules) c.in-Some.ensures
