use Rattle.std.proofs.Common.{get_or, ap, ◌∙◌}
use Rattle.dds_conform.proofs.Passing.{zero_at}
use Rattle.dds_conform.proofs.tallies.counts_of.Goals as goal

pub returns-clause-each : goal.returns-clause-each
returns-clause-each c = λ n. ap (λ xs. get_or xs n 0) c.in_ok-counts.ensures ∙ zero_at c.args.places n
