use Rattle.std.proofs.Common.{rules}
use Rattle.dds_xml.specs.Types.{module_at, types_section}
use Rattle.dds_xml.proofs.types.types_section.Goals as goal

pub returns : goal.returns
unfolding types_section
returns c = rw (c.in_ok-modules.ensures (module_at c.args.lists.now) (λ t r below post. search rules), c.topics.ensures) at c.format.ensures.ok
