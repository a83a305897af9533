use Rattle.std.proofs.Common.{◌≡◌, ◌<◌, ◌+◌, ◌∙◌, suc, length, ap, arith}
use Rattle.dds_qos.specs.Writing.{first_kept}
use Rattle.test_forms.specs.WriterView.{view_of}
use Rattle.dds_writer.specs.Writer.{WriterState, keeps}
use Rattle.dds_writer.proofs.Relevance.{first_is, first_none}
use Rattle.test_forms.proofs.writer.PlainWriter.first.Goals as goal

pub returns-then-len-eq0 : goal.returns-then-len-eq0
returns-then-len-eq0 c =
    let long = c.self.inside.kept.ok.0 in
    let same = c.len.ensures in
    let zero_is = c.if-len-eq0.true in
    let none : length c.self.inside.kept.items ≡ 0 = omega arith in
    let next : c.self.inside.written + 1 ≡ suc c.self.inside.written = omega arith in
    next ∙ (first_none (view_of c.self.inside) none ∙ ap (λ (v : WriterState). first_kept (keeps v) v.written) c.self.view_is)

pub returns : goal.returns
returns c =
    let long = c.self.inside.kept.ok.0 in
    let same = c.len.ensures in
    let ne = c.if-len-eq0.false in
    let some : 0 < length c.self.inside.kept.items = omega arith in
    first_is (view_of c.self.inside) c.self.invariant.kept c.index.result.now c.index.ensures some ∙ ap (λ (v : WriterState). first_kept (keeps v) v.written) c.self.view_is
