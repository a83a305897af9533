use Rattle.std.proofs.Common.{◌≡◌, ◌∙◌, sym, ap, subst, false, List}
use Rattle.dds_reader.specs.declared.notes.WriterProxy.{WriterProxy}
use Rattle.dds_reader.specs.Notes.{has_writer, pays}
use Rattle.dds_reader.proofs.MarkLaws.{cond_same}
use Rattle.dds_reader.specs.Reader.{ReaderState}
use Rattle.dds_reader.proofs.NoteLaws.{pays_none, pays_fits, listed_pays}
use Rattle.test_forms.proofs.reader.PlainReader.acknack.Goals as goal

pub returns-then-not-has_writer-clause-notes : goal.returns-then-not-has_writer-clause-notes
returns-then-not-has_writer-clause-notes c =
    let unlisted : has_writer c.args.writer c.deref.result.now ≡ false = sym c.if-not-has_writer.ensures in
    cond_same c.args.self.now.watching c.args.self.now.proxies (pays c.args.writer c.args.self.now.proxies) (pays_none c.args.writer c.args.self.now.proxies
    (subst (λ (ps : List WriterProxy). has_writer c.args.writer ps ≡ false) (c.deref.ensures.value ∙ ap (λ (r : ReaderState). r.proxies) c.self.view_is) unlisted))

pub invariant_of-self : goal.invariant_of-self
invariant_of-self c = record {
  listed = λ v. c.self.invariant.listed v ∙ sym (listed_pays v c.args.writer c.self.inside.proxies.items) ∙ sym (ap (has_writer v) c.pay.ensures);
  whole = c.self.invariant.whole;
  heard = rw c.pay.ensures (pays_fits c.args.writer c.self.inside.proxies.items c.self.invariant.heard);
}
