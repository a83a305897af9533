use Rattle.std.proofs.Common.{◌≡◌, ◌∙◌, ◌==◌, ◌&&◌, ◌||◌, true, false, List, sym, ap, subst, arith}
use Rattle.dds_base.specs.Messages.{HeartbeatFor}
use Rattle.dds_qos.specs.Reading.{lost_or_heard, below_first}
use Rattle.dds_reader.specs.declared.notes.WriterProxy.{WriterProxy}
use Rattle.dds_reader.specs.Marks.{in_marks}
use Rattle.std.proofs.lemmas.Bool.{both_ways}
use Rattle.dds_reader.specs.Notes.{has_writer, hears}
use Rattle.dds_reader.proofs.MarkLaws.{cond_same}
use Rattle.dds_reader.specs.Reader.{ReaderState, is_marked, heeds, heartbeat_arrives}
use Rattle.dds_reader.proofs.NoteLaws.{hears_none, hears_fits, listed_hears}
use Rattle.test_forms.proofs.reader.PlainReader.on_heartbeat.Goals as goal

pub returns-then-not-has_writer-clause-notes : goal.returns-then-not-has_writer-clause-notes
returns-then-not-has_writer-clause-notes c =
    let unlisted : has_writer c.args.heartbeat.now.writer c.deref.result.now ≡ false = subst (λ (h : HeartbeatFor). has_writer h.writer c.deref.result.now ≡ false) c.heartbeat.view_is (sym c.if-not-has_writer.ensures) in
    cond_same c.args.self.now.watching c.args.self.now.proxies (hears c.args.heartbeat.now.writer c.args.heartbeat.now.last c.args.self.now.proxies) (hears_none c.args.heartbeat.now.writer c.args.heartbeat.now.last c.args.self.now.proxies
    (subst (λ (ps : List WriterProxy). has_writer c.args.heartbeat.now.writer ps ≡ false) (c.deref.ensures.value ∙ ap (λ (r : ReaderState). r.proxies) c.self.view_is) unlisted))

pub invariant_of-self-2 : goal.invariant_of-self-2
invariant_of-self-2 c = record {
  listed = λ v.
      c.mark_below.ensures.cache.listed v ∙ c.self.invariant.listed v
      ∙ sym (listed_hears v c.heartbeat.inside.writer c.heartbeat.inside.last c.self.inside.proxies.items)
      ∙ sym (ap (has_writer v) c.hear.ensures);
  whole = λ t. absurd (both_ways c.self.inside.watching c.if-self.false t);
  heard = rw c.hear.ensures (hears_fits c.heartbeat.inside.writer c.heartbeat.inside.last c.self.inside.proxies.items (let h = c.heartbeat.invariant in omega arith) c.self.invariant.heard);
}

pub returns-clause-answer : goal.returns-clause-answer
returns-clause-answer c =
    let h : HeartbeatFor = c.args.heartbeat.now in
    let H : HeartbeatFor = record { writer = c.heartbeat.inside.writer; reader = c.heartbeat.inside.reader; first = c.heartbeat.inside.first; last = c.heartbeat.inside.last } in
    let known : has_writer H.writer c.self.inside.proxies.items ≡ true = sym (c.if-not-has_writer.ensures ∙ ap (has_writer H.writer) c.deref.ensures.value) in
    subst (λ (g : HeartbeatFor). c.lost_or_heard.result ≡ heartbeat_arrives c.args.self.now g) c.heartbeat.view_is
    (subst (λ (r : ReaderState). c.lost_or_heard.result ≡ heartbeat_arrives r H) c.self.view_is (rw (known, c.if-self.false) (c.lost_or_heard.ensures ∙ ap lost_or_heard c.in_ok-lost.ensures.count)))

pub returns-clause-marks : goal.returns-clause-marks
returns-clause-marks c = λ v n.
    let H : HeartbeatFor = record { writer = c.heartbeat.inside.writer; reader = c.heartbeat.inside.reader; first = c.heartbeat.inside.first; last = c.heartbeat.inside.last } in
    let known : has_writer H.writer c.self.inside.proxies.items ≡ true = sym (c.if-not-has_writer.ensures ∙ ap (has_writer H.writer) c.deref.ensures.value) in
    let new = c.mark_below.new.self.marks.items in
    subst (λ (g : HeartbeatFor). in_marks new v n ≡ (is_marked c.args.self.now v n || ((g.writer == v) && (heeds c.args.self.now g.writer && below_first g.first n)))) c.heartbeat.view_is
    (subst (λ (r : ReaderState). in_marks new v n ≡ (is_marked r v n || ((H.writer == v) && (heeds r H.writer && below_first H.first n)))) c.self.view_is (rw (known, c.if-self.false) (c.in_ok-lost.ensures.marks v n)))
