use Rattle.std.proofs.Common.{ap, ◌∙◌}
use Rattle.dds_book.specs.Kit.{new_holders}
use Rattle.dds_book.proofs.KitLaws.{book_opens}
use Rattle.dds_book.proofs.state.BookState.open.Goals as goal

pub invariant_of-state : goal.invariant_of-state
invariant_of-state g c =
    let named = c.requires in
    let i = c.kit.invariant in
    book_opens g.N.Name.plan g.N.Name.tables c.new.result.items c.kit.inside.domain c.kit.inside.holders.items c.new.ensures.items
    (ap (λ k. k.checked.plan) c.kit.view_is ∙ named.same_plan) i.0
    (i.1.holders_new ∙ ap (new_holders 0) (ap (λ k. k.tables) c.kit.view_is ∙ named.same_tables))
