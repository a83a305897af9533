use Rattle.std.proofs.Common.{◌≡◌, ◌&&◌, ◌==◌}
use Rattle.dds_base.specs.Sums.{any_below}
use Rattle.dds_lists.specs.Lists.{writer_topic}
use Rattle.dds_match.specs.Network.{is_written}
use Rattle.dds_match.specs.Plan.{network_of}
use Rattle.dds_lint.proofs.notes.is_key_written.Given as goal

-- whether one of the writers so far is such a one
abbrev pub invariant-loop-w : goal.invariant-loop-w
invariant-loop-w l = l.any ≡ any_below l.w (λ w. (writer_topic l.plan.writers w == l.topic) && is_written (network_of l.plan) w l.key)
