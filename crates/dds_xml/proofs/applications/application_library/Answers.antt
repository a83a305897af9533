use Rattle.std.proofs.Common.{rules}
use Rattle.dds_xml.specs.Applications.{application_at, application_library}
use Rattle.dds_xml.proofs.applications.application_library.Goals as goal

pub returns : goal.returns
unfolding application_library
returns c = rw c.applications.ensures.count at (c.library.ensures (application_at c.args.lists.now) (λ a r below post. search rules))
