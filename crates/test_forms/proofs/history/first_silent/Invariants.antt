use Rattle.std.proofs.Common.{◌≡◌, ℕ, ◌≤◌, true}
use Rattle.dds_writer.specs.History.{is_silent_in}
use Rattle.test_forms.proofs.history.first_silent.Given as goal

abbrev pub invariant-loop-from : goal.invariant-loop-from
invariant-loop-from l = record {
  upto : l.from ≤ l.sn;
  run : (m : ℕ) → l.from ≤ m → m ≤ l.sn → is_silent_in l.kept l.me l.low l.written l.proxy m ≡ true;
}

abbrev pub decreases-loop-from : goal.decreases-loop-from
decreases-loop-from l = l.from
