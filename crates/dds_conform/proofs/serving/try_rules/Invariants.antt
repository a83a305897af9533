use Rattle.std.proofs.Common.{◌≡◌, ◌<◌, ℕ}
use Rattle.dds_match.specs.Plan.{network_of}
use Rattle.dds_conform.specs.Judging.{Lacks}
use Rattle.dds_conform.proofs.serving.try_rules.Given as goal

-- no rule so far gave the permit, and nothing changed
abbrev pub invariant-loop-u : goal.invariant-loop-u
invariant-loop-u l = record {
  same : l.ledger ≡ l.fn.ledger;
  lack : (u : ℕ) → u < l.u → Lacks (network_of l.plan) l.writer l.key l.fn.ledger u;
}
