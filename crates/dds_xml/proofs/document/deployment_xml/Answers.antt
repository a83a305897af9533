use Rattle.dds_xml.specs.Document.{deployment_xml}
use Rattle.dds_xml.proofs.document.deployment_xml.Goals as goal

pub returns : goal.returns
unfolding deployment_xml
returns c = rw (c.in_ok-profiles.ensures, c.in_ok-entities.ensures) at c.format.ensures.ok
