use Rattle.std.proofs.Common.{arith, subst, sym}
use Rattle.dds_conform.specs.Windows.{Kept}
use Rattle.dds_conform.proofs.Clocked.{kept_less, kept_more}
use Rattle.dds_conform.proofs.Passing.{at_none, kept_alike, same_spans}
use Rattle.dds_conform.proofs.breaches.first_in.Goals as goal

pub loop-at-preserved : goal.loop-at-preserved
loop-at-preserved c =
    let same = same_spans c.args.window.now c.loop-at.window c.step.new.self c.loop-at.invariant.span c.step.ensures.span in
    record {
      span = same;
      window = at_none c.step.result _ c.in_default.is c.step.ensures.none;
      kept = kept_more c.args.plan.now c.args.entries.now c.args.times.now c.args.window.now.reader c.args.window.now.within c.loop-at.at c.loop-at.invariant.kept
          (kept_alike c.args.plan.now c.args.entries.now c.args.times.now c.loop-at.at c.args.window.now c.step.new.self same (at_none c.step.result _ c.in_default.is c.step.ensures.kept));
    }

pub returns-in-Some-clause-kept : goal.returns-in-Some-clause-kept
returns-in-Some-clause-kept c = subst (Kept c.args.plan.now c.args.entries.now c.args.times.now c.args.window.now.reader c.args.window.now.within) (sym c.in-Some.ensures.some.0) c.loop-at.invariant.kept

pub returns-clause-kept : goal.returns-clause-kept
returns-clause-kept c = kept_less c.args.plan.now c.args.entries.now c.args.times.now c.args.window.now.reader c.args.window.now.within c.args.end c.loop-at.at (omega arith) c.loop-at.invariant.kept
