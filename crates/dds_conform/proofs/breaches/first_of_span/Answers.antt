use Rattle.std.proofs.Common.{sym, subst}
use Rattle.dds_lists.specs.WellFormed.{IsConsistent}
use Rattle.dds_conform.specs.Windows.{Kept, end_of}
use Rattle.dds_conform.proofs.Clocked.{kept_without, short_span}
use Rattle.dds_conform.proofs.breaches.first_of_span.Goals as goal

pub open-requires : goal.open-requires
open-requires c = record {
  low = c.requires.reader;
  of = sym c.in-Some.ensures;
  short = short_span c.args.plan.now c.args.reader c.in-Some.nanoseconds c.args.within (subst IsConsistent c.lists.ensures.value c.assert_well_formed.ensures.consistent) (sym c.in-Some.ensures);
}

pub returns-in-None-clause-kept : goal.returns-in-None-clause-kept
returns-in-None-clause-kept c = kept_without c.args.plan.now c.args.entries.now c.args.times.now c.args.reader c.args.within c.args.end (sym c.in-None.ensures)

pub first_in-requires-clause-window : goal.first_in-requires-clause-window
first_in-requires-clause-window c = c.in_ok-window-in-Some.ensures.window c.args.entries.now c.args.times.now

pub returns-in_ok-window-in-Some-clause-kept : goal.returns-in_ok-window-in-Some-clause-kept
returns-in_ok-window-in-Some-clause-kept c =
    let same = c.in_ok-window-in-Some.ensures.span in
    subst (λ v. Kept c.args.plan.now c.args.entries.now c.args.times.now c.args.reader v (end_of c.first_in.result c.args.end)) same.1 (subst (λ r. Kept c.args.plan.now c.args.entries.now c.args.times.now r c.in_ok-window-in-Some.window.within (end_of c.first_in.result c.args.end)) same.0 c.first_in.ensures.kept)
