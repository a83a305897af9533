use Rattle.std.proofs.Common.{rules, ◌≡◌, length, take, ap, ◌∙◌, arith}
use Rattle.std.specs.Vec.{vec_len}
use Rattle.std.proofs.lemmas.List.FromFn.{take-map-range_with_len}
use Rattle.dds_book.specs.Seat.{new_seat}
use Rattle.dds_peers.proofs.ListLaws.{made_len}
use Rattle.dds_peers.proofs.SeatLaws.{participants}
use Rattle.dds_peers.proofs.run.open_book.Goals as goal

pub split_off-requires : goal.split_off-requires
split_off-requires g c =
    let len = made_len new_seat 0 (length g.N.Name.tables) _ c.in-Ok.ensures.seats in
    let tables = c.requires.tables in
    let apps = c.requires.apps in
    let v : vec_len c.in-Ok.opened.1 ≡ length c.in-Ok.opened.1.items = search rules in
    omega arith

pub carriers_of-requires : goal.carriers_of-requires
carriers_of-requires g c =
    participants g.N.Name.plan c.args.apps (length g.N.Name.tables) c.in-Ok.opened.1.items c.in-Ok-split_off.others.items c.requires.apps c.requires.tables c.in-Ok.ensures.seats c.in-Ok-split_off.ensures.tail

pub returns-in-Ok-carriers_of : goal.returns-in-Ok-carriers_of
returns-in-Ok-carriers_of g c =
    let tables = c.requires.tables in
    let apps = c.requires.apps in
    c.in-Ok-split_off.ensures.items ∙ ap (take c.args.apps) c.in-Ok.ensures.seats ∙ take-map-range_with_len new_seat 0 (length g.N.Name.tables) c.args.apps (omega arith)
