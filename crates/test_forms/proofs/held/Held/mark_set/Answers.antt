use Rattle.std.proofs.Common.{◌≡◌, ℕ, ◌+◌, ◌∙◌, ◌==◌, ◌&&◌, ◌||◌, cond, not, ltb, leb, refl, ap, arith}
use Rattle.std.proofs.lemmas.Bool.{and_left}
use Rattle.dds_base.specs.Sets.{has}
use Rattle.dds_base.proofs.SetLaws.{has_within}
use Rattle.dds_reader.specs.Marks.{in_marks}
use Rattle.test_forms.proofs.PushLaws.{none_before, count_start, or_step, none_yet}
use Rattle.dds_reader.proofs.GapLaws.{count_step, lt_step}
use Rattle.test_forms.proofs.held.Held.mark_set.Goals as goal

pub loop-i-init : goal.loop-i-init
loop-i-init c = record {
  room = omega arith;
  listed = c.requires.listed;
  cache = record { limits = refl; stored = refl; keys = refl; listed = λ v. refl };
  marks = λ v m. none_before (c.args.writer == v) (has c.args.set.now) c.args.set.now.base m (in_marks c.args.self.now.marks.items v m) (λ e. and_left (leb c.args.set.now.base m) _ e);
  count = let e : c.args.set.now.base + 0 ≡ c.args.set.now.base = omega arith in rw e (count_start (λ m. has c.args.set.now m && not (in_marks c.args.self.now.marks.items c.args.writer m)) c.args.set.now.base);
  small = omega arith;
}

pub loop-i-preserved : goal.loop-i-preserved
loop-i-preserved c =
    let inv = c.loop-i.invariant in
    let ens = c.mark_one-count.ensures in
    let w : ℕ = c.args.writer in
    let n : ℕ = c.args.set.now.base + c.loop-i.i in
    let eN : c.base-base.result + c.loop-i.i ≡ n = ap (λ b. b + c.loop-i.i) c.base-base.ensures.base in
    let e : c.args.set.now.base + (c.loop-i.i + 1) ≡ n + 1 = omega arith in
    record {
      room = omega (arith, inv.room, ens.len, ens.capacity);
      listed = ens.cache.listed w ∙ inv.listed;
      cache = record {
        limits = ens.cache.limits ∙ inv.cache.limits;
        stored = ens.cache.stored ∙ inv.cache.stored;
        keys = ens.cache.keys ∙ inv.cache.keys;
        listed = λ v. ens.cache.listed v ∙ inv.cache.listed v;
      };
      marks = λ v m. rw e
          (ens.marks v m ∙ ap (λ x. in_marks c.loop-i.self.marks.items v m || ((w == v) && (has c.args.set.now m && (m == x)))) eN ∙ ap (λ b. b || ((w == v) && (has c.args.set.now m && (m == n)))) (inv.marks v m)
          ∙ or_step (in_marks c.args.self.now.marks.items v m) (w == v) (has c.args.set.now m && ltb m n) (has c.args.set.now m && (m == n)) (has c.args.set.now m && ltb m (n + 1)) (lt_step (has c.args.set.now) n m));
      count = rw e
          (ap (λ x. c.loop-i.count + x)
          (ens.count ∙ ap (λ x. cond (has c.args.set.now x && not (in_marks c.loop-i.self.marks.items w x)) 1 0) eN ∙ ap (λ b. cond (has c.args.set.now n && not b) 1 0) (inv.marks w n ∙ none_yet (in_marks c.args.self.now.marks.items w n) (w == w) (has c.args.set.now) n))
          ∙ count_step (λ m. has c.args.set.now m && not (in_marks c.args.self.now.marks.items w m)) c.args.set.now.base n c.loop-i.count (omega arith) inv.count);
      small = omega (arith, inv.small, ens.one);
    }

pub returns-clause-marks : goal.returns-clause-marks
returns-clause-marks c = λ v m. c.loop-i.invariant.marks v m
    ∙ ap (λ b. in_marks c.args.self.now.marks.items v m || ((c.args.writer == v) && b)) (has_within c.args.set.now m (c.args.set.now.base + c.loop-i.i) c.base-base.ensures.long (omega (arith, c.loop-i-test.false)))
