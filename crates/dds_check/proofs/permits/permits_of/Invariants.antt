use Rattle.std.proofs.Common.{◌≡◌, ℕ, ◌*◌, ◌^◌, ◌<◌, cond, get_or, Some, None}
use Rattle.dds_base.specs.Sums.{any_below, total}
use Rattle.dds_match.specs.Network.{named}
use Rattle.dds_match.specs.Plan.{network_of}
use Rattle.dds_check.specs.Limits.{gives_more}
use Rattle.dds_check.specs.Permits.{AreAtMost}
use Rattle.dds_check.proofs.permits.permits_of.Given as goal

-- what the rules so far permit
abbrev pub invariant-loop-u : goal.invariant-loop-u
invariant-loop-u l = record {
  each : (k : ℕ) → k < 64 → get_or l.cells k None
      ≡ cond (any_below l.u (λ u. gives_more ((network_of l.plan).rule u) l.writer k)) None (Some (total l.u (λ u. named ((network_of l.plan).rule u).writes l.writer k * ((network_of l.plan).rule u).start)));
  small : AreAtMost (l.u * 2 ^ 36) l.cells;
}
