use Rattle.std.proofs.Common.{◌≡◌}
use Rattle.dds_recap.specs.Held.{greatest}
use Rattle.dds_recap.specs.Tally.{most_at}
use Rattle.dds_recap.proofs.fullest.most_of_a_key.Given as goal

-- the most of the keys so far
abbrev pub invariant-loop-key : goal.invariant-loop-key
invariant-loop-key l = l.most ≡ greatest l.key (most_at l.recap.by_key l.reader)
