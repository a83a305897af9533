use Rattle.std.proofs.Common.{take}
use Rattle.dds_match.specs.Plan.{network_of}
use Rattle.dds_conform.specs.Judging.{Reaches, actions_of}
use Rattle.dds_conform.proofs.judging.judge.Given as goal

-- the ledger is reached by the entries so far
abbrev pub invariant-loop-i : goal.invariant-loop-i
invariant-loop-i l = Reaches (network_of l.plan) (actions_of (take l.i l.entries)) l.ledger
