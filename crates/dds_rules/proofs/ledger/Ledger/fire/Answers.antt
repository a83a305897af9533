use Rattle.std.proofs.Common.{sym, ap, ◌∙◌, subst, All}
use Rattle.dds_rules.specs.Exchange.{Exchange, HasPlace, IsExchange}
use Rattle.dds_rules.specs.Ledger.{LedgerState}
use Rattle.dds_rules.proofs.Firing.{fired_there, fired_within, placed, needs_there, gives_fit, takes_spent, writes_given}
use Rattle.dds_rules.proofs.Worlds.{fire_stands}
use Rattle.dds_rules.proofs.ledger.Ledger.fire.Goals as goal

pub spend-requires-clause-places : goal.spend-requires-clause-places
spend-requires-clause-places c = subst (All (HasPlace c.self.inside.spare.endpoints)) (sym (c.deref.ensures.value ∙ ap (λ (x : Exchange). x.takes) c.exchange.view_is)) (placed (record { rules = c.self.inside.rules.items; permits = c.self.inside.permits; spare = c.self.inside.spare }) c.args.self.now c.args.rule _ c.index-exchange.result.now
    (record { view = c.self.view_is; sound = c.self.invariant; number = c.number.ensures; within = fired_within (record { rules = c.self.inside.rules.items; permits = c.self.inside.permits; spare = c.self.inside.spare }) _ _ _ c.self.view_is c.number.ensures (sym c.in_default.ensures); at = c.index-exchange.ensures })).takes.places

pub spend-requires-clause-there : goal.spend-requires-clause-there
spend-requires-clause-there c = needs_there (record { rules = c.self.inside.rules.items; permits = c.self.inside.permits; spare = c.self.inside.spare }) c.args.self.now c.args.rule _ c.index-exchange.result.now
    (record { view = c.self.view_is; sound = c.self.invariant; number = c.number.ensures; within = fired_within (record { rules = c.self.inside.rules.items; permits = c.self.inside.permits; spare = c.self.inside.spare }) _ _ _ c.self.view_is c.number.ensures (sym c.in_default.ensures); at = c.index-exchange.ensures })
    c.deref.result.now (c.deref.ensures.value ∙ ap (λ (x : Exchange). x.takes) c.exchange.view_is) (sym c.in_default.ensures)

pub give-requires-clause-places : goal.give-requires-clause-places
give-requires-clause-places c = subst (All (HasPlace c.self.inside.permits.endpoints)) (sym (c.deref-2.ensures.value ∙ ap (λ (x : Exchange). x.writes) c.exchange.view_is)) (placed (record { rules = c.self.inside.rules.items; permits = c.self.inside.permits; spare = c.self.inside.spare }) c.args.self.now c.args.rule _ c.index-exchange.result.now
    (record { view = c.self.view_is; sound = c.self.invariant; number = c.number.ensures; within = fired_within (record { rules = c.self.inside.rules.items; permits = c.self.inside.permits; spare = c.self.inside.spare }) _ _ _ c.self.view_is c.number.ensures (sym c.in_default.ensures); at = c.index-exchange.ensures })).writes.places

pub give-requires-clause-room : goal.give-requires-clause-room
give-requires-clause-room c = gives_fit (record { rules = c.self.inside.rules.items; permits = c.self.inside.permits; spare = c.self.inside.spare }) c.args.self.now c.args.rule _ c.index-exchange.result.now
    (record { view = c.self.view_is; sound = c.self.invariant; number = c.number.ensures; within = fired_within (record { rules = c.self.inside.rules.items; permits = c.self.inside.permits; spare = c.self.inside.spare }) _ _ _ c.self.view_is c.number.ensures (sym c.in_default.ensures); at = c.index-exchange.ensures })
    c.deref-2.result.now (c.deref-2.ensures.value ∙ ap (λ (x : Exchange). x.writes) c.exchange.view_is) (sym c.in_default.ensures)

pub invariant_of-self : goal.invariant_of-self
invariant_of-self c = subst (λ n. All (IsExchange n c.spend.new.spare.endpoints) c.self.inside.rules.items) (sym c.give.ensures.endpoints)
    (subst (λ n. All (IsExchange c.self.inside.permits.endpoints n) c.self.inside.rules.items) c.spend.ensures.endpoints c.self.invariant)

pub returns-clause-spare : goal.returns-clause-spare
returns-clause-spare c = takes_spent (record { rules = c.self.inside.rules.items; permits = c.self.inside.permits; spare = c.self.inside.spare }) c.args.self.now c.args.rule _ c.index-exchange.result.now
    (record { view = c.self.view_is; sound = c.self.invariant; number = c.number.ensures; within = fired_within (record { rules = c.self.inside.rules.items; permits = c.self.inside.permits; spare = c.self.inside.spare }) _ _ _ c.self.view_is c.number.ensures (sym c.in_default.ensures); at = c.index-exchange.ensures })
    c.deref.result.now (c.deref.ensures.value ∙ ap (λ (x : Exchange). x.takes) c.exchange.view_is) _ c.spend.ensures

pub returns-clause-permits : goal.returns-clause-permits
returns-clause-permits c = writes_given (record { rules = c.self.inside.rules.items; permits = c.self.inside.permits; spare = c.self.inside.spare }) c.args.self.now c.args.rule _ c.index-exchange.result.now
    (record { view = c.self.view_is; sound = c.self.invariant; number = c.number.ensures; within = fired_within (record { rules = c.self.inside.rules.items; permits = c.self.inside.permits; spare = c.self.inside.spare }) _ _ _ c.self.view_is c.number.ensures (sym c.in_default.ensures); at = c.index-exchange.ensures })
    c.deref-2.result.now (c.deref-2.ensures.value ∙ ap (λ (x : Exchange). x.writes) c.exchange.view_is) _ c.give.ensures

pub returns-clause-world : goal.returns-clause-world
returns-clause-world c = fire_stands c.args.self.now (record { rules = c.self.inside.rules.items; permits = c.give.new.permits; spare = c.spend.new.spare }) c.args.rule (fired_there c.args.self.now c.args.rule (sym c.in_default.ensures)) (ap (λ (s : LedgerState). s.rules) c.self.view_is)
    (takes_spent (record { rules = c.self.inside.rules.items; permits = c.self.inside.permits; spare = c.self.inside.spare }) c.args.self.now c.args.rule _ c.index-exchange.result.now
    (record { view = c.self.view_is; sound = c.self.invariant; number = c.number.ensures; within = fired_within (record { rules = c.self.inside.rules.items; permits = c.self.inside.permits; spare = c.self.inside.spare }) _ _ _ c.self.view_is c.number.ensures (sym c.in_default.ensures); at = c.index-exchange.ensures })
    c.deref.result.now (c.deref.ensures.value ∙ ap (λ (x : Exchange). x.takes) c.exchange.view_is) _ c.spend.ensures)
    (writes_given (record { rules = c.self.inside.rules.items; permits = c.self.inside.permits; spare = c.self.inside.spare }) c.args.self.now c.args.rule _ c.index-exchange.result.now
    (record { view = c.self.view_is; sound = c.self.invariant; number = c.number.ensures; within = fired_within (record { rules = c.self.inside.rules.items; permits = c.self.inside.permits; spare = c.self.inside.spare }) _ _ _ c.self.view_is c.number.ensures (sym c.in_default.ensures); at = c.index-exchange.ensures })
    c.deref-2.result.now (c.deref-2.ensures.value ∙ ap (λ (x : Exchange). x.writes) c.exchange.view_is) _ c.give.ensures)
