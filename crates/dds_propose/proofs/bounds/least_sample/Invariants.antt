use Rattle.std.proofs.Common.{◌≡◌}
use Rattle.dds_match.specs.Plan.{network_of}
use Rattle.dds_propose.specs.Bounds.{least_counted}
use Rattle.dds_propose.specs.Targets.{counts, reader_of}
use Rattle.dds_propose.specs.Tables.{cell}
use Rattle.dds_propose.proofs.bounds.least_sample.Given as goal

-- the least of the keys so far
abbrev pub invariant-loop-k : goal.invariant-loop-k
invariant-loop-k l = l.least ≡ least_counted (counts (network_of l.plan) l.target) (cell l.weights.samples (reader_of l.target)) l.k
