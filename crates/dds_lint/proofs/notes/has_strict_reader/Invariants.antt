use Rattle.std.proofs.Common.{◌≡◌, not}
use Rattle.dds_base.specs.Sums.{any_below}
use Rattle.dds_match.specs.Plan.{network_of}
use Rattle.dds_lint.proofs.notes.has_strict_reader.Given as goal

-- whether one of the readers so far isn't a watcher
abbrev pub invariant-loop-r : goal.invariant-loop-r
invariant-loop-r l = l.any ≡ any_below l.r (λ r. not ((network_of l.plan).watcher r))
