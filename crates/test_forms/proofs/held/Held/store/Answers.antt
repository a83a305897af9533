use Rattle.std.proofs.Common.{◌≡◌, ◌+◌, ◌∙◌, ◌-◌, ◌≤◌, ap, subst, refl, arith, List, [], ◌∷◌, ◌++◌}
use Rattle.dds_base.specs.declared.sample.Sample.{Sample}
use Rattle.dds_base.specs.Sets.{last_number}
use Rattle.dds_qos.specs.Admission.{stored_after}
use Rattle.dds_cache.specs.Released.{raised}
use Rattle.dds_cache.specs.Cache.{CacheState}
use Rattle.dds_reader.specs.Marks.{Marked, in_marks}
use Rattle.dds_reader.specs.Ranges.{IsLeastUnmarked, is_between}
use Rattle.dds_reader.proofs.MarkLaws.{between_last, between_numbers}
use Rattle.dds_reader.proofs.HeldLaws.{listed_raised, tied_stored}
use Rattle.test_forms.proofs.PushLaws.{adds_push}
use Rattle.test_forms.proofs.held.Held.store.Goals as goal

pub invariant_of-self-2 : goal.invariant_of-self-2
invariant_of-self-2 c =
    let old : CacheState = c.args.self.now.cache in
    let ms : List Marked = c.args.self.now.marks.items in
    let x : Sample = c.args.sample.now in
    let range : Marked = record { writer = x.writer; from = c.args.from; until = x.sn + 1 } in
    let ms' : List Marked = ms ++ range ∷ [] in
    let a = c.in_ok-answer.answer in
    let items : c.push_reserved.new.self.items ≡ ms' = c.push_reserved.ensures.items ∙ ap (λ (l : List Marked). l ++ c.new.result ∷ []) c.in_ok-reserve.ensures.items ∙ ap (λ (m : Marked). ms ++ m ∷ []) c.new.ensures in
    let base = subst (λ (l : List Marked). IsLeastUnmarked (in_marks l x.writer) c.base_in-least.result) (c.deref.ensures.value ∙ items) c.base_in-least.ensures.least in
    let stored : c.release.new.self.stored ≡ stored_after a old.stored x = ap (λ (v : CacheState). v.stored) c.release.ensures ∙ ap (λ (v : CacheState). v.stored) c.in_ok-answer.ensures.state in
    let writers : c.release.new.self.writers ≡ raised x.writer (c.base_in-least.result - 1) old.writers =
    ap (λ (v : CacheState). v.writers) c.release.ensures ∙ ap (λ (v : CacheState). raised x.writer (c.base_in-least.result - 1) v.writers) c.in_ok-answer.ensures.state in
    let high : x.sn + 1 ≤ last_number + 1 = let h : x.sn ≤ last_number = c.requires.high in omega arith in
    record {
      tied = rw items
          (tied_stored (in_marks ms) (in_marks ms') (is_between c.args.from (x.sn + 1)) old c.release.new.self a x c.base_in-least.result c.args.self.now.tied c.requires.listed (adds_push ms range)
          (between_numbers c.args.from (x.sn + 1) c.requires.low high) (between_last c.args.from x.sn c.requires.order) base writers stored);
    }

pub returns-clause-cache : goal.returns-clause-cache
returns-clause-cache c = rw (c.release.ensures, c.in_ok-answer.ensures.state) (record {
  limits = refl;
  stored = refl;
  keys = refl;
  listed = λ v. listed_raised v c.args.sample.now.writer (c.base_in-least.result - 1) c.args.self.now.cache.writers;
})
