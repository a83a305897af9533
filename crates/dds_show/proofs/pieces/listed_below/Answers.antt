use Rattle.std.proofs.Common.{rules}
use Rattle.dds_show.proofs.pieces.listed_below.Goals as goal

pub returns : goal.returns
returns g c item_of same = c.text_below.ensures item_of (λ i r below post. search rules)
