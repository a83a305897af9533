use Rattle.std.proofs.Common.{◌≡◌, ℕ, ◌+◌, ◌-◌, ◌<◌, ◌≤◌, false}
use Rattle.dds_writer.specs.Proxies.{wants}
use Rattle.test_forms.proofs.history.next_wanted.Given as goal

abbrev pub invariant-loop-n : goal.invariant-loop-n
invariant-loop-n l = record {
  low : l.from ≤ l.n;
  fails : (m : ℕ) → l.from ≤ m → m < l.n → wants l.proxy m ≡ false;
}

abbrev pub decreases-loop-n : goal.decreases-loop-n
decreases-loop-n l = l.written + 1 - l.n
