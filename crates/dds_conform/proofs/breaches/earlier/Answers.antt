use Rattle.std.proofs.Common.{length, subst, sym}
use Rattle.dds_conform.specs.Windows.{IsFound, Kept, end_of}
use Rattle.dds_conform.proofs.Clocked.{found_either, found_within}
use Rattle.dds_conform.proofs.breaches.earlier.Goals as goal

pub returns-clause-kept : goal.returns-clause-kept
returns-clause-kept c =
    let size = length c.args.entries.now in
    let within = found_within c.args.plan.now c.args.entries.now c.args.times.now size c.args.found c.requires.found in
    let now = subst (λ m. IsFound c.args.plan.now c.args.entries.now c.args.times.now m c.in_ok-sooner.sooner) c.end_of-end.ensures c.in_ok-sooner.ensures.found in
    let either = found_either c.args.plan.now c.args.entries.now c.args.times.now size c.in_ok-sooner.sooner c.args.found c.or.result within now c.requires.found c.or.ensures in
    subst (Kept c.args.plan.now c.args.entries.now c.args.times.now c.args.reader c.args.within) (sym either.2) (subst (λ m. Kept c.args.plan.now c.args.entries.now c.args.times.now c.args.reader c.args.within (end_of c.in_ok-sooner.sooner m)) c.end_of-end.ensures c.in_ok-sooner.ensures.kept)
