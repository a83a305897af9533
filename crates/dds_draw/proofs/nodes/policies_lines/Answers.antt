use Rattle.dds_draw.specs.Nodes.{policies_lines}
use Rattle.dds_draw.proofs.nodes.policies_lines.Goals as goal

pub returns : goal.returns
unfolding policies_lines
returns c =
    rw (c.in_ok-history.ensures, c.in_ok-samples.ensures, c.in_ok-instances.ensures, c.in_ok-of_one.ensures, c.reliability_line-reliability.ensures) at c.format.ensures.ok
