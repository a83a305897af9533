use Rattle.std.proofs.Common.{length, ap, sym, ◌∙◌}
use Rattle.dds_base.specs.WordLaws.{length-flags_in}
use Rattle.dds_base.specs.Sets.{NumberSet}
use Rattle.dds_base.proofs.sets.SnSet.base.Goals as goal

pub returns-clause-long : goal.returns-clause-long
returns-clause-long c = ap (λ (s : NumberSet). length s.flags) (sym c.self.view_is) ∙ length-flags_in c.self.inside.words
