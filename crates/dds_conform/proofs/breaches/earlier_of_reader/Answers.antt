use Rattle.std.proofs.Common.{length}
use Rattle.dds_conform.specs.Windows.{end_of}
use Rattle.dds_conform.proofs.Clocked.{both_spans}
use Rattle.dds_conform.proofs.breaches.earlier_of_reader.Goals as goal

pub returns-clause-kept : goal.returns-clause-kept
returns-clause-kept c = both_spans c.args.plan.now c.args.entries.now c.args.times.now c.args.reader (end_of c.in_ok-taken.taken (length c.args.entries.now)) (end_of c.in_ok-both.both (length c.args.entries.now)) c.in_ok-both.ensures.sooner c.in_ok-taken.ensures.kept c.in_ok-both.ensures.kept
