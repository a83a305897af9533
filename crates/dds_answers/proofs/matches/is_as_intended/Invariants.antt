use Rattle.std.proofs.Common.{◌≡◌}
use Rattle.dds_match.specs.Plan.{network_of}
use Rattle.dds_runs.specs.First.{all_below}
use Rattle.dds_answers.specs.Matches.{is_writer_as_intended}
use Rattle.dds_answers.proofs.matches.is_as_intended.Given as goal

abbrev pub invariant-loop-w : goal.invariant-loop-w
invariant-loop-w l = l.all ≡ all_below l.w (is_writer_as_intended (network_of l.plan))
