use Rattle.std.proofs.Common.{◌≡◌, ◌∙◌, ◌==◌, ◌&&◌, ◌||◌, true, sym, ap, subst}
use Rattle.dds_base.specs.Messages.{covers, GapFor}
use Rattle.dds_base.specs.declared.sample.Arrival.TheVariants.{Irrelevant}
use Rattle.dds_reader.specs.Marks.{in_marks}
use Rattle.dds_reader.specs.Notes.{has_writer}
use Rattle.dds_reader.specs.Reader.{ReaderState, is_marked, heeds, gap_arrives}
use Rattle.test_forms.proofs.reader.PlainReader.on_gap.Goals as goal

pub returns-clause-answer : goal.returns-clause-answer
returns-clause-answer c =
    let g : GapFor = c.args.gap.now in
    let known : has_writer g.writer c.self.inside.proxies.items ≡ true =
    subst (λ (g' : GapFor). has_writer g'.writer c.self.inside.proxies.items ≡ true) c.gap.view_is (sym (c.if-not-has_writer.ensures ∙ ap (has_writer c.gap.inside.writer) c.deref.ensures.value)) in
    subst (λ (r : ReaderState). Irrelevant c.in_ok-gone.gone ≡ gap_arrives r g) c.self.view_is (rw (known, c.if-self.false) (ap Irrelevant c.in_ok-gone.ensures.count))

pub returns-clause-marks : goal.returns-clause-marks
returns-clause-marks c = λ v n.
    let g : GapFor = c.args.gap.now in
    let known : has_writer g.writer c.self.inside.proxies.items ≡ true =
    subst (λ (g' : GapFor). has_writer g'.writer c.self.inside.proxies.items ≡ true) c.gap.view_is (sym (c.if-not-has_writer.ensures ∙ ap (has_writer c.gap.inside.writer) c.deref.ensures.value)) in
    subst (λ (r : ReaderState). in_marks c.mark_gap.new.self.marks.items v n ≡ (is_marked r v n || ((g.writer == v) && (heeds r g.writer && covers g n)))) c.self.view_is (rw (known, c.if-self.false) (c.in_ok-gone.ensures.marks v n))
