use Rattle.std.proofs.Common.{ℕ, ◌<◌, get_or}
use Rattle.dds_base.proofs.numbered.are_rising.Given as goal

abbrev pub invariant-loop-at : goal.invariant-loop-at
invariant-loop-at g l = (i j : ℕ) (d : _) → i < j → j < l.at → g.T.Numbered.number_of (get_or l.entries i d) < g.T.Numbered.number_of (get_or l.entries j d)
