use Rattle.std.proofs.Common.{rules, arith, ap}
use Rattle.dds_book.proofs.PairSteps.{joins, compares, some_both}
use Rattle.dds_book.proofs.halves.steps.agree.Goals as goal

pub join_seat-requires : goal.join_seat-requires
join_seat-requires g c = (search rules, search rules, search rules, omega arith, joins g.E.Owned.owner c.args.table.now.key _ _ _ _ c.requires.parts.0 c.requires.parts.1)

pub load-requires : goal.load-requires
load-requires g c = (search rules, omega arith, compares g.E.Owned.owner c.args.table.now.key _ _ _ (some_both c.args.mine.me.0 c.args.theirs.me.0 _ c.requires.parts.0 (ap (λ m. m.0) c.join_seat.ensures.2)))
