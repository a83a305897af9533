use Rattle.std.proofs.Common.{◌≡◌}
use Rattle.dds_match.specs.Plan.{network_of}
use Rattle.dds_runs.specs.First.{all_below}
use Rattle.dds_answers.specs.Matches.{is_same}
use Rattle.dds_answers.proofs.matches.is_writer_as_intended.Given as goal

abbrev pub invariant-loop-r : goal.invariant-loop-r
invariant-loop-r l = l.all ≡ all_below l.r (λ r. is_same ((network_of l.plan).matched l.writer r) ((network_of l.plan).intended l.writer r))
