use Rattle.std.proofs.Common.{◌≡◌, false, ◌&&◌, is_some}
use Rattle.dds_base.specs.Sums.{any_below}
use Rattle.dds_match.specs.Network.{is_written}
use Rattle.dds_match.specs.Plan.{network_of}
use Rattle.dds_propose.proofs.targets.is_kept_last.Given as goal

-- no writer so far with KEEP_LAST and the key matches the reader
abbrev pub invariant-loop-w : goal.invariant-loop-w
invariant-loop-w l =
    any_below l.w (λ w. (network_of l.plan).matched w l.reader && (is_some ((network_of l.plan).writer_limits w).keep_last && is_written (network_of l.plan) w l.key)) ≡ false
