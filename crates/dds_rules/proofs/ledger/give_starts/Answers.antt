use Rattle.std.proofs.Common.{All, length, refl, sym, ap, ◌∙◌, subst}
use Rattle.std.specs.Prelude.{slice_get}
use Rattle.dds_rules.specs.Counts.{CountTable}
use Rattle.dds_rules.specs.Exchange.{HasPlace}
use Rattle.dds_rules.proofs.Opening.{no_starts, more_starts, start_room, writes_placed}
use Rattle.dds_rules.proofs.ledger.give_starts.Goals as goal

pub loop-u-init : goal.loop-u-init
loop-u-init c = no_starts c.args.lists.now _

pub give-requires-clause-places : goal.give-requires-clause-places
give-requires-clause-places c =
    let rows = c.loop-u.invariant.endpoints ∙ ap (λ (t : CountTable). t.endpoints) c.requires.fresh in
    subst (λ n. All (HasPlace n) c.deref.result.now) (sym rows) (subst (All (HasPlace (length c.args.lists.now.writers.entries))) (sym c.deref.ensures.value)
    (writes_placed c.args.lists.now c.requires.network c.new.result _ c.rule-rule.ensures))

pub give-requires-clause-room : goal.give-requires-clause-room
give-requires-clause-room c n e within = start_room c.args.lists.now c.requires.well_formed c.requires.consistent c.loop-u.u _ _ _ c.args.permits.now _
    (sym (ap (slice_get c.args.lists.now.rules.entries) c.new.ensures) ∙ c.rule-rule.ensures) c.deref.ensures.value refl c.requires.fresh c.loop-u.invariant _ _

pub loop-u-preserved : goal.loop-u-preserved
loop-u-preserved c = more_starts c.args.lists.now c.loop-u.u _ _ _ _ _ _
    (sym (ap (slice_get c.args.lists.now.rules.entries) c.new.ensures) ∙ c.rule-rule.ensures) c.deref.ensures.value refl c.loop-u.invariant c.give.ensures
