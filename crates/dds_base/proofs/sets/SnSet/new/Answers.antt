use Rattle.std.proofs.Common.{◌≡◌, ℕ, ◌==◌, ◌||◌, ◌∙◌, ◌+◌, ap, subst, get_or, length, take, arith, sym}
use Rattle.std.specs.List.{All}
use Rattle.std.proofs.Math.Seq.{take-length}
use Rattle.std.proofs.lemmas.List.Folds.{list_any_more}
use Rattle.std.proofs.lemmas.List.Elements.{All-more}
use Rattle.dds_base.specs.Sets.{NumberSet, FitsAfter, has, set_of, is_listed}
use Rattle.dds_base.proofs.SetLaws.{has_in, same_set_of}
use Rattle.dds_base.proofs.sets.SnSet.new.Goals as goal

pub loop-n-init : goal.loop-n-init
loop-n-init c = record {
  fits = λ k d within. absurd (omega arith);
  set = c.empty-set.ensures;
}

pub insert-requires : goal.insert-requires
insert-requires c =
    let base : c.loop-n.set.base ≡ c.args.base = ap (λ (s : NumberSet). s.base) c.loop-n.invariant.set in
    (omega (arith, base), omega (arith, base), omega arith)

pub loop-n-preserved : goal.loop-n-preserved
loop-n-preserved c =
    let x : ℕ = get_or c.args.numbers.now c.loop-n.n-index 0 in
    let before = is_listed (take c.loop-n.n-index c.args.numbers.now) in
    record {
      fits = All-more (FitsAfter c.args.base) c.args.numbers.now c.loop-n.n-index 0 c.loop-n-test.true c.loop-n.invariant.fits (omega arith, omega arith, omega arith);
      set = c.insert.ensures
          ∙ ap (λ (s : NumberSet). set_of s.base (λ m. has s m || (x == m))) c.loop-n.invariant.set
          ∙ same_set_of c.args.base (λ m. has (set_of c.args.base before) m || (x == m)) (is_listed (take (c.loop-n.n-index + 1) c.args.numbers.now)) (λ m low high.
          ap (λ b. b || (x == m)) (has_in c.args.base m before low high) ∙ sym (list_any_more (λ k. k == m) c.args.numbers.now c.loop-n.n-index 0 c.loop-n-test.true));
    }

pub returns : goal.returns
returns c =
    let whole : take c.loop-n.n-index c.args.numbers.now ≡ c.args.numbers.now = (let e : c.loop-n.n-index ≡ length c.args.numbers.now = omega (arith, c.loop-n-test.false, c.loop-n.auto.n-index-end) in rw e (take-length c.args.numbers.now)) in (
      (c.if-base-lt1.false, c.if-base.false, subst (λ ns. All (FitsAfter c.args.base) ns) whole c.loop-n.invariant.fits),
      c.loop-n.invariant.set ∙ ap (λ ns. set_of c.args.base (is_listed ns)) whole,
    )
