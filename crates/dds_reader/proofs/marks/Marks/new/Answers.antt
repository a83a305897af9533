use Rattle.std.proofs.Common.{ℕ, ◌∙◌, ◌==◌, ◌||◌, List, ap, sym, take}
use Rattle.std.specs.List.{list_any}
use Rattle.std.proofs.lemmas.List.Folds.{list_any_more}
use Rattle.dds_reader.specs.declared.ranges.Ranges.{Ranges}
use Rattle.dds_reader.specs.Marks.{listed_in, in_range, has_marks}
use Rattle.dds_reader.proofs.ListedLaws.{opened_unmarked, opened_writers}
use Rattle.dds_reader.proofs.marks.Marks.new.Goals as goal

pub loop-writer-init : goal.loop-writer-init
loop-writer-init c = record {
  ordered = c.new-of.ensures.ordered;
  unmarked = λ w n. ap (λ (es : List (ℕ × Ranges)). list_any (in_range w n) (listed_in es)) c.new-of.ensures.empty;
  writers = λ w. ap (λ (es : List (ℕ × Ranges)). has_marks w (listed_in es)) c.new-of.ensures.empty;
}

pub loop-writer-preserved : goal.loop-writer-preserved
loop-writer-preserved c =
    let old = c.loop-writer.of in
    let new = c.insert.new.self in
    let inv = c.loop-writer.invariant in
    let u = c.in_ok-insert.ensures.updates in
    record {
      ordered = c.insert.ensures.ordered;
      unmarked = opened_unmarked old new c.number.result c.new.result inv.ordered c.insert.ensures.ordered u c.new.ensures inv.unmarked;
      writers = λ w. opened_writers old new c.number.result c.new.result u w ∙ ap (λ b. b || (c.number.result == w)) (inv.writers w)
          ∙ ap (λ k. list_any (λ v. v == w) (take c.loop-writer.writer-index c.args.writers.now) || (k == w)) (c.number.ensures ∙ c.writer-item.is)
          ∙ sym (list_any_more (λ v. v == w) c.args.writers.now c.loop-writer.writer-index c.writer-item.result c.loop-writer-test.true);
    }
