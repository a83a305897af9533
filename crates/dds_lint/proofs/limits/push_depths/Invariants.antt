use Rattle.std.proofs.Common.{◌≡◌, ◌++◌}
use Rattle.dds_match.specs.Plan.{network_of}
use Rattle.dds_weights.specs.Views.{certificate_view}
use Rattle.dds_lint.specs.Conditions.{depth_nos}
use Rattle.dds_lint.specs.Every.{every_below}
use Rattle.dds_lint.proofs.limits.push_depths.Given as goal

-- those of the writers so far are added
abbrev pub invariant-loop-w : goal.invariant-loop-w
invariant-loop-w l = l.nos.items ≡ l.initial.nos.items ++ every_below l.w (depth_nos (network_of l.plan) (certificate_view l.certificate).bounds (certificate_view l.certificate).totals)
