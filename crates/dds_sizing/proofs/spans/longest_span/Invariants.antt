use Rattle.std.proofs.Common.{ℕ, ◌≡◌, ◌<◌, ◌≤◌, ◌-◌, true, false}
use Rattle.dds_sizing.specs.Spans.{is_kept, longest}
use Rattle.dds_sizing.proofs.spans.longest_span.Given as goal

-- one span keeps the limit, and none from a longer one on
abbrev pub invariant-loop-broken : goal.invariant-loop-broken
invariant-loop-broken l = record {
  order : l.kept < l.broken;
  top : l.broken ≤ 9223372036854775808;
  kept : is_kept l.plan l.reader l.key l.limit l.kept ≡ true;
  broken : (other : ℕ) → l.broken ≤ other → other ≤ longest → is_kept l.plan l.reader l.key l.limit other ≡ false;
}

-- they come nearer to each other
abbrev pub decreases-loop-broken : goal.decreases-loop-broken
decreases-loop-broken l = l.broken - l.kept
