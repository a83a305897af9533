use Rattle.std.proofs.Common.{◌≡◌, ◌++◌}
use Rattle.dds_match.specs.Plan.{network_of}
use Rattle.dds_lint.specs.Notes.{held_up}
use Rattle.dds_lint.specs.Every.{every_below, those_below}
use Rattle.dds_lint.proofs.notes.push_held_up.Given as goal

-- the pairs of the writers so far are added
abbrev pub invariant-loop-w : goal.invariant-loop-w
invariant-loop-w l = l.notes.items ≡ l.initial.notes.items ++ every_below l.w (λ w. those_below (network_of l.plan).readers (held_up l.plan w))
