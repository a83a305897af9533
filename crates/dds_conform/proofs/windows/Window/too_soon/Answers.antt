use Rattle.std.proofs.Common.{◌+◌, ◌-◌, length, get_or, refl, sym, arith}
use Rattle.std.proofs.lemmas.Option.{slice_get_read}
use Rattle.dds_conform.specs.Breaches.{wrote}
use Rattle.dds_conform.proofs.Passing.{entry_at, gone_within, holds_at_none, in_window, keeps_pace, known_at, only_pair, own_pair, take_paced, too_soon, writer_low}
use Rattle.dds_conform.proofs.windows.Window.too_soon.Goals as goal

pub full_cap-requires-clause-within : goal.full_cap-requires-clause-within
full_cap-requires-clause-within c =
    let e = c.index-entries-at.result in
    let known = known_at c.args.plan.now c.args.entries.now c.args.times.now c.args.at e c.requires.trace c.requires.at c.index-entries-at.is in
    let low = writer_low c.args.plan.now c.assert_well_formed.ensures.network e known c.assert_well_formed.ensures.well_formed _ _ c.in-Wrote.writer c.in-Wrote.key c.in-Wrote.is in
    gone_within c.args.plan.now c.args.entries.now c.args.times.now c.args.at c.args.self.now c.requires.window.window c.in-Wrote.writer c.in-Wrote.key low.0 low.1

pub returns-in_err-most-in-Wrote-clause-none : goal.returns-in_err-most-in-Wrote-clause-none
returns-in_err-most-in-Wrote-clause-none c =
    let e = c.index-entries-at.result in
    let known = known_at c.args.plan.now c.args.entries.now c.args.times.now c.args.at e c.requires.trace c.requires.at c.index-entries-at.is in
    let low = writer_low c.args.plan.now c.assert_well_formed.ensures.network e known c.assert_well_formed.ensures.well_formed _ _ c.in-Wrote.writer c.in-Wrote.key c.in-Wrote.is in
    holds_at_none c.from_residual.result _ (keeps_pace c.args.plan.now c.args.entries.now c.args.times.now c.args.at c.args.self.now c.requires.window e c.in-Wrote.writer c.in-Wrote.key c.requires.trace c.requires.at low.0 low.1
    (slice_get_read c.args.entries.now (length c.args.entries.now) c.args.at e refl c.requires.at c.index-entries-at.is) (only_pair e _ _ c.in-Wrote.writer c.in-Wrote.key c.in-Wrote.is) c.in_err-most-in-Wrote.ensures)

pub returns-in-Took-clause-none : goal.returns-in-Took-clause-none
returns-in-Took-clause-none c = take_paced c.args.plan.now c.args.entries.now c.args.times.now c.args.self.now.reader c.args.self.now.within c.args.at c.index-entries-at.result _ _ _ _ c.requires.at c.index-entries-at.is c.in-Took.is

pub overflow_sub-result-in-Wrote : goal.overflow_sub-result-in-Wrote
overflow_sub-result-in-Wrote c =
    let e = c.index-entries-at.result in
    let known = known_at c.args.plan.now c.args.entries.now c.args.times.now c.args.at e c.requires.trace c.requires.at c.index-entries-at.is in
    let low = writer_low c.args.plan.now c.assert_well_formed.ensures.network e known c.assert_well_formed.ensures.well_formed _ _ c.in-Wrote.writer c.in-Wrote.key c.in-Wrote.is in
    let lt = c.requires.at in
    let first = c.find_write-first.ensures.before in
    let found = entry_at c.args.entries.now c.find_write-first.result (wrote c.in-Wrote.writer c.in-Wrote.key) e (omega (arith, first, lt)) c.find_write-first.ensures.write in
    let inside = in_window c.args.plan.now c.args.entries.now c.args.times.now c.args.at c.args.self.now c.requires.window c.in-Wrote.writer c.in-Wrote.key c.in_ok-most-in-Wrote.most c.find_write-first.result low.0 low.1 c.in_ok-most-in-Wrote.ensures
    (get_or c.args.entries.now c.find_write-first.result e) found.0 found.1 c.find_write-first.ensures.counted in
    let size = c.requires.trace.size in
    let near = c.requires.window.rest c.find_write-first.result inside (omega (arith, first, lt, size)) in
    let rise = c.requires.trace.rise c.find_write-first.result c.args.at (omega (arith, first)) (omega (arith, lt, size)) in
    omega (arith, near, rise)

pub returns-in_ok-most-in-Wrote-clause-some : goal.returns-in_ok-most-in-Wrote-clause-some
returns-in_ok-most-in-Wrote-clause-some c =
    let e = c.index-entries-at.result in
    let known = known_at c.args.plan.now c.args.entries.now c.args.times.now c.args.at e c.requires.trace c.requires.at c.index-entries-at.is in
    let low = writer_low c.args.plan.now c.assert_well_formed.ensures.network e known c.assert_well_formed.ensures.well_formed _ _ c.in-Wrote.writer c.in-Wrote.key c.in-Wrote.is in
    let lt = c.requires.at in
    let first = c.find_write-first.ensures.before in
    let found = entry_at c.args.entries.now c.find_write-first.result (wrote c.in-Wrote.writer c.in-Wrote.key) e (omega (arith, first, lt)) c.find_write-first.ensures.write in
    let inside = in_window c.args.plan.now c.args.entries.now c.args.times.now c.args.at c.args.self.now c.requires.window c.in-Wrote.writer c.in-Wrote.key c.in_ok-most-in-Wrote.most c.find_write-first.result low.0 low.1 c.in_ok-most-in-Wrote.ensures
    (get_or c.args.entries.now c.find_write-first.result e) found.0 found.1 c.find_write-first.ensures.counted in
    let size = c.requires.trace.size in
    let near = c.requires.window.rest c.find_write-first.result inside (omega (arith, first, lt, size)) in
    let rise = c.requires.trace.rise c.find_write-first.result c.args.at (omega (arith, first)) (omega (arith, lt, size)) in
    too_soon c.args.plan.now c.args.entries.now c.args.times.now c.args.at c.args.self.now c.requires.window
    (record {
      line = c.line.result;
      writer = c.in-Wrote.writer;
      key = c.in-Wrote.key;
      reader = c.args.self.now.reader;
      within = c.args.self.now.within;
      by = c.args.self.now.nanoseconds - (get_or c.args.times.now c.args.at 0 - get_or c.args.times.now c.find_write-first.result 0) + 1;
    }) e (get_or c.args.entries.now c.find_write-first.result e) c.in_ok-most-in-Wrote.most c.find_write-first.result c.requires.trace c.requires.at
    (slice_get_read c.args.entries.now (length c.args.entries.now) c.args.at e refl c.requires.at c.index-entries-at.is) (sym c.line.ensures) (own_pair e _ _ c.in-Wrote.writer c.in-Wrote.key c.in-Wrote.is) low.0 low.1 refl refl
    c.in_ok-most-in-Wrote.ensures first found.0 found.1 c.find_write-first.ensures.counted (omega (arith, near, rise))
