use Rattle.std.proofs.Common.{◌≡◌, ◌∙◌, List, map, sym, ap, refl}
use Rattle.dds_base.specs.declared.sample.Sample.{Sample}
use Rattle.dds_writer.specs.Proxies.{ProxyState, bases_of, lowest, after_message}
use Rattle.dds_writer.specs.History.{is_silent_in}
use Rattle.test_forms.specs.WriterView.{view_of}
use Rattle.dds_writer.specs.Writer.{is_silent}
use Rattle.dds_writer.proofs.ProxyLaws.{items_mapped}
use Rattle.dds_writer.proofs.KeptSteps.{noted_bases, kept_noted}
use Rattle.dds_writer.proofs.Relevance.{silent_same}
use Rattle.dds_writer.proofs.Runs.{noted_same}
use Rattle.test_forms.proofs.writer.PlainWriter.note_sent.Goals as goal

pub invariant_of-self : goal.invariant_of-self
invariant_of-self c =
    let old = c.self.inside.proxies.items in
    let silent = is_silent_in c.deref-2.result.now c.self.inside.me c.lowest-low.result c.self.inside.written in
    let proxies = items_mapped c.self.inside.proxies (after_message c.args.reader (is_silent_in c.deref-2.result.now c.self.inside.me c.lowest-low.result c.self.inside.written) c.args.sn) c.note_sent.new.proxies
    (c.note_sent.ensures ∙ ap (map (after_message c.args.reader (is_silent_in c.deref-2.result.now c.self.inside.me c.lowest-low.result c.self.inside.written) c.args.sn)) c.deref_mut.ensures.value) in
    let noted = kept_noted (view_of c.self.inside) (map (after_message c.args.reader silent c.args.sn) old) (noted_bases c.args.reader silent c.args.sn old) c.self.invariant.kept in
    record {
      counted = c.self.invariant.counted;
      kept = rw proxies (record { rising = noted.rising; own = λ x i. (let o = noted.own x i in record { writer = o.writer; from = o.from; upto = o.upto; awaited = o.awaited }); ended = noted.ended });
      held = c.self.invariant.held;
    }

pub returns : goal.returns
returns c =
    let old = c.self.inside.proxies.items in
    let proxies = items_mapped c.self.inside.proxies (after_message c.args.reader (is_silent_in c.deref-2.result.now c.self.inside.me c.lowest-low.result c.self.inside.written) c.args.sn) c.note_sent.new.proxies
    (c.note_sent.ensures ∙ ap (map (after_message c.args.reader (is_silent_in c.deref-2.result.now c.self.inside.me c.lowest-low.result c.self.inside.written) c.args.sn)) c.deref_mut.ensures.value) in
    let low : c.lowest-low.result ≡ lowest c.self.inside.written (bases_of c.self.inside.proxies.items) = c.lowest-low.ensures ∙ ap (λ l. lowest c.self.inside.written (bases_of l)) c.deref.ensures.value in
    let silent = noted_same c.args.reader (is_silent_in c.deref-2.result.now c.self.inside.me c.lowest-low.result c.self.inside.written) (is_silent (view_of c.self.inside)) c.args.sn
    (λ (x : ProxyState) n. ap (λ m. is_silent_in c.deref-2.result.now c.self.inside.me m c.self.inside.written x n) low
    ∙ ap (λ (l : List Sample). is_silent_in l c.self.inside.me (lowest c.self.inside.written (bases_of c.self.inside.proxies.items)) c.self.inside.written x n) c.deref-2.ensures.value
    ∙ sym (silent_same (view_of c.self.inside) x n)) c.self.inside.proxies.items in
    rw (proxies, silent, ← c.self.view_is) refl
