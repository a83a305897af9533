use Rattle.std.proofs.Common.{◌≡◌, ℕ, ◌-◌, ◌≤◌, Bool}
use Rattle.std.specs.BTreeMap.{btree_map_len, IsOrdered}
use Rattle.std.specs.Ordering.{nat_cmp}
use Rattle.dds_base.specs.Counts.{count_between}
use Rattle.dds_reader.specs.Ranges.{IsLeft, IsJoined, Tests}
use Rattle.dds_reader.proofs.ranges.absorb.Given as goal

abbrev pub invariant-loop-from : goal.invariant-loop-from
invariant-loop-from l = record {
  ordered : IsOrdered nat_cmp l.ranges;
  low : l.start ≤ l.at;
  high : l.at ≤ l.end;
  further : l.fn.until ≤ l.end;
  left : IsLeft l.initial.ranges l.ranges l.key l.at;
  joined : IsJoined l.initial.ranges l.key l.fn.until l.end;
  small : l.known ≤ l.at - l.start;
  count : (p : ℕ → Bool) → Tests l.initial.ranges l.key l.start p → l.known ≡ count_between p l.start l.at;
}

abbrev pub decreases-loop-from : goal.decreases-loop-from
decreases-loop-from l = btree_map_len l.ranges
