use Rattle.std.proofs.Common.{rules}
use Rattle.dds_show.specs.Json.{application_item}
use Rattle.dds_show.proofs.json.applications_section.Goals as goal

pub returns : goal.returns
returns c = rw c.applications.ensures.count at (c.section.ensures (application_item c.args.lists.now) (λ i r below post. search rules))
