-- A DATA or a GAP is sent, or refused.
use Rattle.std.proofs.Common.{set, sym}
use Rattle.dds_base.specs.declared.events.Refusal.TheVariants.{Foreign, NothingToSend}
use Rattle.dds_base.specs.declared.events.Reply.TheVariants.{Refused, Sent}
use Rattle.dds_domain.specs.Sendings.{sending}
use Rattle.dds_domain.specs.View.{view_of}
use Rattle.dds_domain.proofs.Sendings.{message_done, message_foreign, message_nothing, message_pair}
use Rattle.dds_domain.proofs.Steps.{Steps, refused_kept, refused_now}
use Rattle.dds_domain.proofs.parts.Parts.send_message.Goals as goal
use Rattle.dds_domain.proofs.parts.Parts.send_message.Goals.{After-send, In-None}

pub message-requires : goal.message-requires
message-requires c = message_pair (view_of c.self.inside) _ c.args.writer c.args.reader _ _ c.self.view_is c.requires (sym c.if-not-matched.ensures) c.number.ensures c.index_mut-from.ensures.value

pub returns-then-not-matched-clause-steps : goal.returns-then-not-matched-clause-steps
returns-then-not-matched-clause-steps c =
    (refused_now (sending c.args.writer c.args.reader c.args.due) Foreign (view_of c.self.inside) _ c.self.view_is (message_foreign (view_of c.self.inside) c.args.writer c.args.reader c.args.due (sym c.if-not-matched.ensures))).0

-- there is nothing to send
none : (c : In-None) → Steps (sending c.args.writer c.args.reader c.args.due) c.args.self.now (Refused NothingToSend) (record (view_of c.self.inside) { writers = set c.self.inside.writers.items c.number.result c.index_mut-from.result.now })
none c = message_nothing (view_of c.self.inside) _ c.args.writer c.args.reader _ _ c.self.view_is c.requires (sym c.if-not-matched.ensures) c.number.ensures c.index_mut-from.ensures.value c.args.due (sym c.in-None.ensures.found)

pub returns-in-None-clause-steps : goal.returns-in-None-clause-steps
returns-in-None-clause-steps c = (none (goal.at.returns-in-None-clause-steps c).In-None).0

-- it is sent
one : (c : After-send) → Steps (sending c.args.writer c.args.reader c.args.due) c.args.self.now (Sent c.send.result) (record (view_of c.self.inside) { writers = set c.self.inside.writers.items c.number.result c.note_sent.new.self; bus = c.send.new.self })
one c =
    message_done (view_of c.self.inside) _ c.args.writer c.args.reader _ _ c.self.view_is c.requires (sym c.if-not-matched.ensures) c.number.ensures c.index_mut-from.ensures.value c.args.due _ _ _ _ _
    (sym c.in-Some.ensures.found) c.in-Some.ensures.message c.note_sent.ensures c.send.ensures.place c.send.ensures.state

pub returns-in-Some-clause-steps : goal.returns-in-Some-clause-steps
returns-in-Some-clause-steps c = (one (goal.at.returns-in-Some-clause-steps c).After-send).0

-- ── notes
pub returns-then-not-matched-clause-notes : goal.returns-then-not-matched-clause-notes
returns-then-not-matched-clause-notes c = refused_kept c.args.self.now (sending c.args.writer c.args.reader c.args.due) Foreign

pub returns-in-None-clause-notes : goal.returns-in-None-clause-notes
returns-in-None-clause-notes c = (none (goal.at.returns-in-None-clause-notes c).In-None).1

pub returns-in-Some-clause-notes : goal.returns-in-Some-clause-notes
returns-in-Some-clause-notes c = (one (goal.at.returns-in-Some-clause-notes c).After-send).1
