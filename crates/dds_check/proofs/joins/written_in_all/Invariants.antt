use Rattle.std.proofs.Common.{◌≡◌, ◌≤◌, ◌*◌, ◌^◌, true}
use Rattle.dds_base.specs.Sums.{total}
use Rattle.dds_match.specs.Plan.{network_of}
use Rattle.dds_runs.specs.Accepted.{is_finite, opening_permits}
use Rattle.dds_runs.specs.First.{all_below}
use Rattle.dds_check.proofs.joins.written_in_all.Given as goal

-- each key so far has a number, and the sum is of these
abbrev pub invariant-loop-k : goal.invariant-loop-k
invariant-loop-k l = record {
  finite : all_below l.k (is_finite (network_of l.plan) l.writer) ≡ true;
  sum : l.sum ≡ total l.k (opening_permits (network_of l.plan) l.writer);
  small : l.sum ≤ l.k * 2 ^ 44;
}
