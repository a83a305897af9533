use Rattle.std.proofs.Common.{inl, inr, arith}
use Rattle.std.proofs.lemmas.Bool.{cases_lt}
use Rattle.dds_propose.proofs.Tables.{cell_past}
use Rattle.dds_propose.proofs.rounds.follow_target.Goals as goal

pub returns-clause-done : goal.returns-clause-done
returns-clause-done c = λ k counted. elim (cases_lt k 64) [ inl below ↦ c.loop-k.invariant.done k (omega arith) counted | inr past ↦ cell_past _ _ k past ]
