use Rattle.std.proofs.Common.{rules, arith, ap}
use Rattle.dds_book.proofs.PairSteps.{halves}
use Rattle.dds_book.proofs.halves.steps.begin.Goals as goal

pub split_seat-requires : goal.split_seat-requires
split_seat-requires g c = (search rules, omega arith, halves g.E.Owned.owner c.args.table.now.key _ _ (ap (λ m. m.0.parts) c.requires.whole))
