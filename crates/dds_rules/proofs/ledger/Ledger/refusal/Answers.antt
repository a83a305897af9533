use Rattle.std.proofs.Common.{true, false, sym, ap, ◌∙◌, subst, arith, All}
use Rattle.dds_rules.specs.Exchange.{Exchange, IsAlone}
use Rattle.dds_rules.specs.Ledger.{LedgerState, fire_refusal}
use Rattle.dds_rules.proofs.Firing.{no_rule_there, placed, takes_lacked, room_lacked}
use Rattle.dds_rules.proofs.ledger.Ledger.refusal.Goals as goal

pub returns-then-number-len : goal.returns-then-number-len
returns-then-number-len c = no_rule_there (record { rules = c.self.inside.rules.items; permits = c.self.inside.permits; spare = c.self.inside.spare }) c.args.rule (omega arith) ∙ ap (λ (s : LedgerState). fire_refusal s c.args.rule) c.self.view_is

pub lacks_takes-requires : goal.lacks_takes-requires
lacks_takes-requires c = subst (λ es. All (IsAlone es) es) (sym (c.deref.ensures.value ∙ ap (λ (x : Exchange). x.takes) c.exchange.view_is)) (placed (record { rules = c.self.inside.rules.items; permits = c.self.inside.permits; spare = c.self.inside.spare }) c.args.self.now c.args.rule _ c.index-exchange.result.now
    (record { view = c.self.view_is; sound = c.self.invariant; number = c.number-2.ensures; within = omega arith; at = c.index-exchange.ensures })).takes.alone

pub returns-then-lacks_takes : goal.returns-then-lacks_takes
returns-then-lacks_takes c = takes_lacked (record { rules = c.self.inside.rules.items; permits = c.self.inside.permits; spare = c.self.inside.spare }) c.args.self.now c.args.rule _ c.index-exchange.result.now
    (record { view = c.self.view_is; sound = c.self.invariant; number = c.number-2.ensures; within = omega arith; at = c.index-exchange.ensures })
    c.deref.result.now (c.deref.ensures.value ∙ ap (λ (x : Exchange). x.takes) c.exchange.view_is) (sym c.lacks_takes.ensures ∙ c.if-lacks_takes.true)

pub lacks_room-requires : goal.lacks_room-requires
lacks_room-requires c = subst (λ es. All (IsAlone es) es) (sym (c.deref-2.ensures.value ∙ ap (λ (x : Exchange). x.writes) c.exchange.view_is)) (placed (record { rules = c.self.inside.rules.items; permits = c.self.inside.permits; spare = c.self.inside.spare }) c.args.self.now c.args.rule _ c.index-exchange.result.now
    (record { view = c.self.view_is; sound = c.self.invariant; number = c.number-2.ensures; within = omega arith; at = c.index-exchange.ensures })).writes.alone

pub returns-then-lacks_room : goal.returns-then-lacks_room
returns-then-lacks_room c = room_lacked (record { rules = c.self.inside.rules.items; permits = c.self.inside.permits; spare = c.self.inside.spare }) c.args.self.now c.args.rule _ c.index-exchange.result.now
    (record { view = c.self.view_is; sound = c.self.invariant; number = c.number-2.ensures; within = omega arith; at = c.index-exchange.ensures })
    c.deref.result.now c.deref-2.result.now (c.deref.ensures.value ∙ ap (λ (x : Exchange). x.takes) c.exchange.view_is) (c.deref-2.ensures.value ∙ ap (λ (x : Exchange). x.writes) c.exchange.view_is)
    (sym c.lacks_takes.ensures ∙ c.if-lacks_takes.false) true (sym c.lacks_room.ensures ∙ c.if-lacks_room.true)

pub returns : goal.returns
returns c = room_lacked (record { rules = c.self.inside.rules.items; permits = c.self.inside.permits; spare = c.self.inside.spare }) c.args.self.now c.args.rule _ c.index-exchange.result.now
    (record { view = c.self.view_is; sound = c.self.invariant; number = c.number-2.ensures; within = omega arith; at = c.index-exchange.ensures })
    c.deref.result.now c.deref-2.result.now (c.deref.ensures.value ∙ ap (λ (x : Exchange). x.takes) c.exchange.view_is) (c.deref-2.ensures.value ∙ ap (λ (x : Exchange). x.writes) c.exchange.view_is)
    (sym c.lacks_takes.ensures ∙ c.if-lacks_takes.false) false (sym c.lacks_room.ensures ∙ c.if-lacks_room.false)
