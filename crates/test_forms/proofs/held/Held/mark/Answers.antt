use Rattle.std.proofs.Common.{◌≡◌, ◌∙◌, ◌-◌, ap, subst, List, [], ◌∷◌, ◌++◌}
use Rattle.dds_reader.specs.Marks.{Marked, in_marks}
use Rattle.dds_reader.specs.Ranges.{is_between, IsLeastUnmarked}
use Rattle.dds_reader.proofs.MarkLaws.{between_numbers}
use Rattle.dds_reader.proofs.HeldLaws.{same_released, tied_marked}
use Rattle.test_forms.proofs.PushLaws.{adds_push, push_numbers}
use Rattle.test_forms.proofs.held.Held.mark.Goals as goal

pub base_in-base-requires : goal.base_in-base-requires
base_in-base-requires c =
    let range : Marked = record { writer = c.args.writer; from = c.args.from; until = c.args.until } in
    rw (c.deref.ensures.value, c.push_reserved.ensures.items, c.new.ensures)
    (λ n is. (push_numbers c.args.self.now.marks.items range c.args.self.now.tied.numbers c.requires.low c.requires.high c.args.writer n is).1)

pub invariant_of-self : goal.invariant_of-self
invariant_of-self c =
    let ms : List Marked = c.args.self.now.marks.items in
    let range : Marked = record { writer = c.args.writer; from = c.args.from; until = c.args.until } in
    let items : c.push_reserved.new.self.items ≡ ms ++ range ∷ [] = c.push_reserved.ensures.items ∙ ap (λ (m : Marked). ms ++ m ∷ []) c.new.ensures in
    let base = subst (λ (l : List Marked). IsLeastUnmarked (in_marks l c.args.writer) c.base_in-base.result) (c.deref.ensures.value ∙ items) c.base_in-base.ensures.least in
    record {
      tied = rw items
          (tied_marked (in_marks ms) (in_marks (ms ++ range ∷ [])) (is_between c.args.from c.args.until) c.args.self.now.cache c.release.new.self c.args.writer c.base_in-base.result c.args.self.now.tied c.requires.listed
          (adds_push ms range) (between_numbers c.args.from c.args.until c.requires.low c.requires.high) base c.release.ensures);
    }

pub returns-clause-cache : goal.returns-clause-cache
returns-clause-cache c = same_released c.args.self.now.cache c.release.new.self c.args.writer (c.base_in-base.result - 1) c.release.ensures
