use Rattle.std.proofs.Common.{refl}
use Rattle.dds_conform.proofs.Passing.{open_window}
use Rattle.dds_conform.proofs.windows.Window.open.Goals as goal

pub returns-clause-window : goal.returns-clause-window
returns-clause-window c = λ es ts. open_window c.args.plan.now es ts
    (record {
      reader = c.args.reader;
      within = c.args.within;
      nanoseconds = c.args.nanoseconds;
      passed = 0;
      caps = c.in_ok-caps.caps;
      written = c.in_ok-written.written;
      gone = c.in_ok-gone.gone;
      owed = c.in_ok-owed.owed;
      ended = c.in_ok-ended.ended;
    }) c.requires c.in_ok-caps.ensures refl c.in_ok-written.ensures c.in_ok-gone.ensures c.in_ok-owed.ensures c.in_ok-ended.ensures
