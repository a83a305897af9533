use Rattle.std.proofs.Common.{rules, arith, ap}
use Rattle.dds_book.proofs.GaugeCuts.{cuts_owner}
use Rattle.dds_book.proofs.gauge.owner.Goals as goal

pub split_seat-seat-requires : goal.split_seat-seat-requires
split_seat-seat-requires c =
    let from = ap (λ m. m.0.from) c.requires.maker.0 in
    let to = ap (λ m. m.0.to) c.requires.maker.0 in
    (search rules, omega arith, cuts_owner c.args.table.now.key _ _ (omega arith))
