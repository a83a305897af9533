use Rattle.std.proofs.Common.{◌++◌, codes, rules}
use Rattle.dds_sizing.specs.Reasons.{writes_words}
use Rattle.dds_sizing.proofs.reasons.more_writes.Goals as goal

pub returns : goal.returns
returns c = c.text_of_each.ensures (λ w. codes ", " ++ writes_words c.args.lists.now w) (λ x r post. search rules)
