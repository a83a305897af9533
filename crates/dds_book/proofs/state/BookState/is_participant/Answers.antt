use Rattle.std.proofs.Common.{◌≡◌, ◌∙◌, ap, rules}
use Rattle.dds_lists.specs.Lists.{Lists}
use Rattle.dds_book.specs.Owning.{is_participant}
use Rattle.dds_book.specs.Seat.{SeatState}
use Rattle.dds_book.proofs.state.BookState.is_participant.Goals as goal

pub returns : goal.returns
returns g c =
    let same : c.lists.result.now ≡ g.N.Name.plan = search rules in
    c.is_participant.ensures
    ∙ ap (λ (l : Lists). is_participant l c.seat.inside.number) same
    ∙ ap (λ (s : SeatState). is_participant g.N.Name.plan s.number) c.seat.view_is
