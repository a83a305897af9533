use Rattle.std.proofs.Common.{◌&&◌, nat_lt, if◌then◌else◌}
use Rattle.dds_match.specs.Plan.{network_of}
use Rattle.dds_conditions.specs.Heard.{Adds}
use Rattle.dds_conditions.proofs.heard.add_heard.Given as goal

abbrev pub invariant-loop-w : goal.invariant-loop-w
invariant-loop-w l =
    Adds (network_of l.plan).writers (λ w. if nat_lt w l.w && (network_of l.plan).matched w l.reader then l.weight else 0) l.initial.cells l.cells
