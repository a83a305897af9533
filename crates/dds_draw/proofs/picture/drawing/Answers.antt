use Rattle.dds_draw.specs.Picture.{drawing}
use Rattle.dds_draw.proofs.picture.drawing.Goals as goal

pub returns : goal.returns
unfolding drawing
returns c = rw (c.in_ok-clusters.ensures, c.in_ok-rules.ensures, c.lists-lists.ensures.value, c.in_ok-pairs.ensures) at c.format.ensures.ok
