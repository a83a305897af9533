use Rattle.std.proofs.Common.{rules}
use Rattle.dds_show.specs.Json.{rule_item}
use Rattle.dds_show.proofs.json.rules_section.Goals as goal

pub returns : goal.returns
returns c = rw c.rules.ensures at (c.section.ensures (rule_item c.args.lists.now) (λ i r below post. search rules))
