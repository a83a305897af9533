use Rattle.std.proofs.Common.{◌+◌, ◌∙◌, Ok, Err, Some, None, [], ◌∷◌, cond, refl, ap, sym, subst, length-append, arith}
use Rattle.dds_base.specs.declared.events.Event.{Event}
use Rattle.dds_base.specs.declared.events.Reply.{Reply}
use Rattle.dds_book.specs.declared.round.RoundEnd.TheVariants.{Full, Quiet, GivesWay, Fault}
use Rattle.dds_book.specs.Owning.{is_participant}
use Rattle.dds_book.specs.Round.{IsRound}
use Rattle.dds_book.proofs.RoundLaws.{begins, idles, enters, halts, ends, is_full, is_quiet, same_number}
use Rattle.dds_book.proofs.state.BookState.turns.Goals as goal
use Rattle.dds_book.proofs.state.BookState.turns.Goals.{then-loop-entered-test+else-quiet-lt-QUIET_TURNS, else-loop-entered-test, then-quiet-lt-QUIET_TURNS-2, else-quiet-lt-QUIET_TURNS-2}

pub turn-requires-clause-participant : goal.turn-requires-clause-participant
turn-requires-clause-participant g c = ap (is_participant g.N.Name.plan) (same_number _ _ _ _ _ _ _ _ _ _ _ c.loop-entered.invariant) ∙ c.requires.participant

pub loop-entered-init : goal.loop-entered-init
loop-entered-init g c = begins _ _ _ _ _ _

pub loop-entered-preserved-in-Ok-None : goal.loop-entered-preserved-in-Ok-None
loop-entered-preserved-in-Ok-None g c =
    idles _ _ _ _ _ _ _ _ _ _ _ c.loop-entered.invariant c.loop-entered-test.true c.if-quiet-lt-QUIET_TURNS.true _ _ _
    (rw c.in-Ok-None.field-0-is at c.in-Ok-None.ensures.turn) (rw c.in-Ok-None.field-0-is at c.in-Ok-None.ensures.pace)

pub loop-entered-preserved : goal.loop-entered-preserved
loop-entered-preserved g c =
    enters _ _ _ _ _ _ _ _ _ _ _ c.loop-entered.invariant c.loop-entered-test.true c.if-quiet-lt-QUIET_TURNS.true _ _ _ (c.in-Ok-Some.event, c.in-Ok-Some.field-0-0-1)
    (rw c.in-Ok-Some.field-0-is at c.in-Ok-Some.ensures.turn) (rw c.in-Ok-Some.field-0-is at c.in-Ok-Some.ensures.pace) (sym c.is_excess.ensures ∙ c.if-is_excess.false)

pub returns-then-is_excess : goal.returns-then-is_excess
returns-then-is_excess g c =
    let on = c.loop-entered.invariant in
    let m : Event × Reply = (c.in-Ok-Some.event, c.in-Ok-Some.field-0-0-1) in
    let ended = c.round.ensures in
    subst (λ most. IsRound g.N.Name.plan c.args.fates.now most c.args.self.now c.turn.new.self c.args.seat.now c.turn.new.seat c.args.pace.now c.turn.new.pace c.round.result) c.min-most.ensures
    (halts _ _ _ _ _ _ _ _ _ _ _ on c.loop-entered-test.true c.if-quiet-lt-QUIET_TURNS.true _ _ _ (Ok (Some m)) GivesWay c.round.result
    (rw c.in-Ok-Some.field-0-is at c.in-Ok-Some.ensures.turn) (rw c.in-Ok-Some.field-0-is at c.in-Ok-Some.ensures.pace)
    (ap (λ b. cond b (Some GivesWay) None) (sym c.is_excess.ensures ∙ c.if-is_excess.true)) (ap (λ r. r.end) ended) (ap (λ r. r.changes) ended)
    (ap (λ r. r.entered) ended ∙ ap (λ n. n + 1) on.count ∙ sym (length-append on.told (m ∷ []))))

pub returns-in-Err : goal.returns-in-Err
returns-in-Err g c =
    let on = c.loop-entered.invariant in
    let ended = c.round-in-Err.ensures in
    subst (λ most. IsRound g.N.Name.plan c.args.fates.now most c.args.self.now c.turn.new.self c.args.seat.now c.turn.new.seat c.args.pace.now c.turn.new.pace c.round-in-Err.result) c.min-most.ensures
    (halts _ _ _ _ _ _ _ _ _ _ _ on c.loop-entered-test.true c.if-quiet-lt-QUIET_TURNS.true _ _ _ (Err c.in-Err.fault) (Fault c.in-Err.fault) c.round-in-Err.result
    c.in-Err.ensures.turn c.in-Err.ensures.pace refl (ap (λ r. r.end) ended) (ap (λ r. r.changes) ended) (ap (λ r. r.entered) ended ∙ on.count))

pub returns : goal.returns
returns g c =
    let on = c.loop-entered.invariant in
    let ended = c.round-2.ensures in
    let end = ap (λ r. r.end) ended in
    let changes = ap (λ r. r.changes) ended in
    let entered = ap (λ r. r.entered) ended in
    subst (λ most. IsRound g.N.Name.plan c.args.fates.now most c.args.self.now c.loop-entered.self c.args.seat.now c.loop-entered.seat c.args.pace.now c.loop-entered.pace c.round-2.result) c.min-most.ensures
    (elim c.if-quiet-lt-QUIET_TURNS-2.branch [
      | then-quiet-lt-QUIET_TURNS-2 w ↦ ends _ _ _ _ _ _ _ _ _ _ _ on Full c.round-2.result (is_full _ _ _ _ _ _ _ _ _ _ _ on w.if-quiet-lt-QUIET_TURNS-2.true (elim c.loop-entered-test.branch [ then-loop-entered-test+else-quiet-lt-QUIET_TURNS v ↦ omega arith | else-loop-entered-test v ↦ omega arith ])) (end ∙ w.end-is) changes entered
      | else-quiet-lt-QUIET_TURNS-2 w ↦ ends _ _ _ _ _ _ _ _ _ _ _ on Quiet c.round-2.result (is_quiet _ _ _ _ _ _ _ _ _ _ _ on w.if-quiet-lt-QUIET_TURNS-2.false) (end ∙ w.end-is) changes entered
    ])
