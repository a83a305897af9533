use Rattle.std.proofs.Common.{◌≡◌, ◌∙◌, ◌-◌, ℕ, ap, sym, subst}
use Rattle.dds_base.specs.Messages.{GapFor, covers}
use Rattle.dds_cache.specs.Released.{is_listed}
use Rattle.dds_cache.specs.Cache.{CacheState}
use Rattle.dds_reader.specs.Marks.{AddsMarks, in_marks, has_marks}
use Rattle.dds_reader.proofs.MarkLaws.{adds_numbers}
use Rattle.dds_reader.proofs.HeldLaws.{listed_released, same_released, tied_marked}
use Rattle.dds_reader.proofs.held.Held.mark_gap.Goals as goal

pub base-base-requires : goal.base-base-requires
base-base-requires c =
    let g = c.args.gap.now in
    λ n is. (adds_numbers (in_marks c.args.self.now.marks) (in_marks c.mark_gap.new.self) g.writer (covers g) c.in_ok-gone.ensures.marks c.args.self.now.tied.numbers c.in_ok-gone.ensures.numbers c.gap.inside.writer n is).1

pub invariant_of-self-2 : goal.invariant_of-self-2
invariant_of-self-2 c =
    let old = c.args.self.now in
    let marks = in_marks old.marks in
    let more = in_marks c.mark_gap.new.self in
    let w : ℕ = c.gap.inside.writer in
    let same : w ≡ c.args.gap.now.writer = ap (λ (g : GapFor). g.writer) c.gap.view_is in
    let listed = ap (λ v. is_listed v old.cache.writers) same ∙ c.requires in
    let adds = subst (λ (v : ℕ). AddsMarks marks more v (covers c.args.gap.now)) (sym same) c.in_ok-gone.ensures.marks in
    record {
      tied = tied_marked marks more (covers c.args.gap.now) old.cache c.release.new.self w c.base-base.result old.tied listed adds c.in_ok-gone.ensures.numbers c.base-base.ensures.least c.release.ensures;
      listed = listed_released (λ v. has_marks v old.marks) (λ v. has_marks v c.mark_gap.new.self) old.cache.writers c.release.new.self.writers w (c.base-base.result - 1) c.in_ok-gone.ensures.writers old.listed (ap (λ (v : CacheState). v.writers) c.release.ensures);
    }

pub returns-clause-cache : goal.returns-clause-cache
returns-clause-cache c = same_released c.args.self.now.cache c.release.new.self c.gap.inside.writer (c.base-base.result - 1) c.release.ensures
