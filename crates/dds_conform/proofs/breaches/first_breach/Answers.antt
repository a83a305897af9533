use Rattle.std.proofs.Common.{length, ap, arith}
use Rattle.dds_lists.specs.Lists.{Lists}
use Rattle.dds_conform.specs.Windows.{end_of}
use Rattle.dds_conform.proofs.Clocked.{all_readers, more_readers}
use Rattle.dds_conform.proofs.breaches.first_breach.Goals as goal

pub loop-number-preserved : goal.loop-number-preserved
loop-number-preserved c = record {
  found = c.in_ok-next.ensures.found;
  kept = more_readers c.args.plan.now c.args.entries.now c.args.times.now c.new-reader.result c.loop-number.number (end_of c.loop-number.found (length c.args.entries.now)) (end_of c.in_ok-next.next (length c.args.entries.now)) c.new-reader.ensures c.in_ok-next.ensures.sooner
      c.loop-number.invariant.kept c.in_ok-next.ensures.kept;
}

pub returns-clause-kept : goal.returns-clause-kept
returns-clause-kept c = all_readers c.args.plan.now c.args.entries.now c.args.times.now c.loop-number.number (end_of c.loop-number.found (length c.args.entries.now)) (let same = ap (λ (d : Lists). length d.readers.entries) c.lists-lists.ensures.value in omega (arith, same)) c.loop-number.invariant.kept
