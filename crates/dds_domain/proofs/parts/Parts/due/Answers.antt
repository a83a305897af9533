use Rattle.std.proofs.Common.{◌≡◌, inl, inr, sym, ap, ◌∙◌, arith}
use Rattle.dds_domain.specs.Bus.{taken_count}
use Rattle.dds_domain.specs.Schedule.{load, send_due}
use Rattle.dds_domain.proofs.BusTurns.{IsEnough, loaded, turns_to_bus, turns_elsewhere, due_on_bus, due_in_odd, due_in_even}
use Rattle.dds_domain.proofs.Buses.{load_is}
use Rattle.dds_domain.proofs.parts.Parts.due.Goals as goal
use Rattle.dds_domain.proofs.parts.Parts.due.Goals.{then-odd, else-odd}

-- enough packets are on the bus
pub returns-then-count-enough : goal.returns-then-count-enough
returns-then-count-enough c v noted h =
    let enough : IsEnough c.args.turn c.if-odd.enough = elim c.if-odd.branch [ then-odd w ↦ inl (w.if-odd.true, w.enough-is) | else-odd w ↦ inr (w.if-odd.false, w.enough-is) ] in
    let count : c.count.result ≡ load v = c.count.ensures ∙ ap (λ d. taken_count d.bus) c.self.view_is ∙ load_is v c.args.self.now.bus h.world.bus in
    let turns = turns_to_bus v c.args.turn c.if-odd.enough enough (omega arith) in
    c.by_fate.ensures v noted h (loaded v c.args.turn turns) ∙ sym (due_on_bus c.args.self.now.plan v noted c.args.participant c.args.turn c.args.fate turns)

-- too few packets are on the bus, in an odd turn
pub returns-then-odd-2 : goal.returns-then-odd-2
returns-then-odd-2 c v noted h =
    let enough : IsEnough c.args.turn c.if-odd.enough = elim c.if-odd.branch [ then-odd w ↦ inl (w.if-odd.true, w.enough-is) | else-odd w ↦ inr (w.if-odd.false, w.enough-is) ] in
    let count : c.count.result ≡ load v = c.count.ensures ∙ ap (λ d. taken_count d.bus) c.self.view_is ∙ load_is v c.args.self.now.bus h.world.bus in
    let elsewhere = turns_elsewhere v c.args.turn c.if-odd.enough enough (omega arith) in
    sym (due_in_odd c.args.self.now.plan v noted c.args.participant c.args.turn c.args.fate elsewhere c.if-odd-2.true)

-- too few packets are on the bus, in an even turn
pub returns : goal.returns
returns c v noted h =
    let enough : IsEnough c.args.turn c.if-odd.enough = elim c.if-odd.branch [ then-odd w ↦ inl (w.if-odd.true, w.enough-is) | else-odd w ↦ inr (w.if-odd.false, w.enough-is) ] in
    let count : c.count.result ≡ load v = c.count.ensures ∙ ap (λ d. taken_count d.bus) c.self.view_is ∙ load_is v c.args.self.now.bus h.world.bus in
    let elsewhere = turns_elsewhere v c.args.turn c.if-odd.enough enough (omega arith) in
    c.send_due.ensures v noted h
    ∙ ap (send_due c.args.self.now.plan v noted c.args.participant) c.of.ensures
    ∙ sym (due_in_even c.args.self.now.plan v noted c.args.participant c.args.turn c.args.fate elsewhere c.if-odd-2.false)
