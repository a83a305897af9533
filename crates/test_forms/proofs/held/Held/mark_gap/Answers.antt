use Rattle.std.proofs.Common.{◌≡◌, ℕ, ◌+◌, ◌∙◌, ◌==◌, ◌&&◌, ◌||◌, Bool, not, refl, ap, subst, List}
use Rattle.std.proofs.lemmas.Bool.{eq-eqb}
use Rattle.dds_base.specs.Counts.{count_between}
use Rattle.dds_base.specs.Sets.{has}
use Rattle.dds_base.specs.Messages.{covers, GapFor}
use Rattle.dds_qos.specs.Reading.{gap_count}
use Rattle.dds_reader.specs.Marks.{Marked}
use Rattle.dds_reader.specs.Marks.{in_marks}
use Rattle.dds_reader.specs.Ranges.{is_between}
use Rattle.test_forms.proofs.PushLaws.{or_step}
use Rattle.dds_reader.proofs.GapLaws.{parts_count}
use Rattle.test_forms.proofs.held.Held.mark_gap.Goals as goal

pub returns-clause-count : goal.returns-clause-count
returns-clause-count c =
    let w : ℕ = c.gap.inside.writer in
    let start : ℕ = c.gap.inside.start in
    let base : ℕ = c.gap.inside.set.base in
    let E : c.base.result ≡ base = c.base.ensures.base in
    let ms0 : List Marked = c.args.self.now.marks.items in
    let ms1 : List Marked = c.mark_range-before.new.self.marks.items in
    let items = c.in_ok-reserve.ensures.items in
    let grown = λ (n : ℕ). c.mark_range-before.ensures.marks w n ∙ ap (λ (l : List Marked). in_marks l w n || ((w == w) && is_between start c.base.result n)) items
    ∙ ap (λ (u : ℕ). in_marks ms0 w n || ((w == w) && is_between start u n)) E ∙ ap (λ (b : Bool). in_marks ms0 w n || (b && is_between start base n)) (eq-eqb w w refl) in
    let before : c.mark_range-before.result ≡ count_between (λ n. not (in_marks ms0 w n)) start base =
    c.mark_range-before.ensures.count ∙ ap (λ (l : List Marked). count_between (λ n. not (in_marks l w n)) start c.base.result) items ∙ ap (λ (u : ℕ). count_between (λ n. not (in_marks ms0 w n)) start u) E in
    let whole = ap (λ x. x + c.mark_set-within.result) before ∙ ap (λ y. count_between (λ n. not (in_marks ms0 w n)) start base + y) c.mark_set-within.ensures.count
    ∙ parts_count start base (has c.gap.inside.set) (in_marks ms0 w) (in_marks ms1 w) c.gap.invariant.1 grown in
    subst (λ (g : GapFor). c.mark_range-before.result + c.mark_set-within.result ≡ gap_count (in_marks ms0 g.writer) g) c.gap.view_is whole

pub returns-clause-marks : goal.returns-clause-marks
returns-clause-marks c = λ v n.
    let G : GapFor = record { writer = c.gap.inside.writer; reader = c.gap.inside.reader; start = c.gap.inside.start; set = c.gap.inside.set } in
    let ms0 : List Marked = c.args.self.now.marks.items in
    let grown = c.mark_range-before.ensures.marks v n ∙ ap (λ (l : List Marked). in_marks l v n || ((G.writer == v) && is_between G.start c.base.result n)) c.in_ok-reserve.ensures.items
    ∙ ap (λ (u : ℕ). in_marks ms0 v n || ((G.writer == v) && is_between G.start u n)) c.base.ensures.base in
    let all = c.mark_set-within.ensures.marks v n ∙ ap (λ (b : Bool). b || ((G.writer == v) && has G.set n)) grown
    ∙ or_step (in_marks ms0 v n) (G.writer == v) (is_between G.start G.set.base n) (has G.set n) (covers G n) refl in
    subst (λ (g : GapFor). in_marks c.mark_set-within.new.self.marks.items v n ≡ (in_marks ms0 v n || ((g.writer == v) && covers g n))) c.gap.view_is all
