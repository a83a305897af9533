use Rattle.dds_draw.specs.Nodes.{rule_node}
use Rattle.dds_draw.proofs.nodes.rule_node.Goals as goal

pub returns : goal.returns
unfolding rule_node
returns c = rw (c.number-number.ensures, c.in_ok-name.ensures, c.in_ok-start.ensures, c.in_ok-pace.ensures) at c.format.ensures.ok
