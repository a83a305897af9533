use Rattle.std.proofs.Common.{Some, refl, subst, sym}
use Rattle.dds_base.specs.declared.sample.Arrival.{Arrival}
use Rattle.dds_recap.specs.Recap.{Arrives}
use Rattle.dds_recap.proofs.Following.{more_as, on_ok_more, overwrote_arrives}
use Rattle.dds_recap.proofs.recap.Recap.note_arrival.Goals as goal

pub returns-in_ok-remove-in-Overwrote-2 : goal.returns-in_ok-remove-in-Overwrote-2
returns-in_ok-remove-in-Overwrote-2 c =
    let new = c.arrive-in-Overwrote.new.self in
    on_ok_more c.arrive-in-Overwrote.result _ _
    (λ after.
    subst (λ (a : Arrival). Arrives (Some (c.args.reader, c.args.key)) a c.args.self.now new) (sym c.in-Overwrote.is)
    (overwrote_arrives c.args.reader c.args.key c.in-Overwrote.old c.args.self.now new c.remove.new.self c.remove-in-Overwrote.new.self c.in_ok-remove-in-Overwrote.ensures.came
    (more_as c.args.reader c.args.reader c.number.result c.in-Overwrote.old.key 1 _ _ refl c.number.ensures c.in_ok-remove-in-Overwrote.ensures.gone) c.in_ok-remove-in-Overwrote.ensures.most
    c.in_ok-remove-in-Overwrote-2.ensures.came c.in_ok-remove-in-Overwrote-2.ensures.gone c.in_ok-remove-in-Overwrote-2.ensures.most after))
    c.arrive-in-Overwrote.ensures
