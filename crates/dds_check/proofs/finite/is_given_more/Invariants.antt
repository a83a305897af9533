use Rattle.std.proofs.Common.{◌≡◌, false}
use Rattle.dds_base.specs.Sums.{any_below}
use Rattle.dds_match.specs.Plan.{network_of}
use Rattle.dds_check.specs.Limits.{gives_more}
use Rattle.dds_check.proofs.finite.is_given_more.Given as goal

-- none so far does
abbrev pub invariant-loop-u : goal.invariant-loop-u
invariant-loop-u l = any_below l.u (λ u. gives_more ((network_of l.plan).rule u) l.writer l.key) ≡ false
