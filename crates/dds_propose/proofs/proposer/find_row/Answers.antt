use Rattle.std.proofs.Common.{sym, ◌∙◌}
use Rattle.dds_propose.proofs.proposer.find_row.Goals as goal

pub returns : goal.returns
returns c = record {
  rest = rw c.in-Some.is at c.in_ok-weights.ensures;
  holds = sym c.in_ok-is_invariant.ensures ∙ c.if-not-branch.false;
  shown = sym c.bound_of.ensures ∙ c.in-Some-bound_of.is;
}
