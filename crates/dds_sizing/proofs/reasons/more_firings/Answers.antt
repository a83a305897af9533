use Rattle.std.proofs.Common.{◌++◌, codes, rules}
use Rattle.dds_sizing.specs.Reasons.{firings_words}
use Rattle.dds_sizing.proofs.reasons.more_firings.Goals as goal

pub returns : goal.returns
returns c = c.text_of_each.ensures (λ f. codes ", " ++ firings_words c.args.lists.now f) (λ x r post. search rules)
