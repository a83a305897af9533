use Rattle.std.proofs.Common.{◌≡◌, ℕ, ◌+◌, ◌-◌, ◌<◌, leb, ltb, not, ◌&&◌, false, get_or, ap, sym, ◌∙◌, arith, refl, inl, inr}
use Rattle.std.proofs.lemmas.Bool.{le-leb}
use Rattle.dds_base.specs.Sets.{NumberSet, has, set_of}
use Rattle.dds_base.specs.Words.{flags_in}
use Rattle.dds_base.specs.WordLaws.{length-flags_in}
use Rattle.dds_base.proofs.SetLaws.{cut_whole, cut_none, cut_more, flags_are}
use Rattle.dds_base.proofs.Bools.{and_true, both_parts}
use Rattle.dds_base.proofs.sets.SnSet.without.Goals as goal

pub loop-k-init : goal.loop-k-init
loop-k-init c = record {
  words = c.self.invariant.0;
  low = omega arith;
  top = inl refl;
  flags = λ j. sym (ap (λ t. get_or (flags_in c.self.inside.words) j false && not t) (cut_none c.flags_below-k.result j) ∙ and_true _);
}

pub loop-k-preserved : goal.loop-k-preserved
loop-k-preserved c = record {
  words = c.clear_flag.ensures.words c.loop-k.invariant.words;
  low = omega (arith, c.loop-k.invariant.low);
  top = inr (omega (arith, c.loop-k-test.true));
  flags = λ j. ap (λ fs. get_or fs j false) c.clear_flag.ensures.flags
      ∙ cut_more c.flags_below-k.result c.loop-k.k j (flags_in c.loop-k.words) (get_or (flags_in c.self.inside.words) j false) c.loop-k.invariant.low (omega (arith, length-flags_in c.loop-k.words, c.flags_up_to-end.ensures.few, c.loop-k-test.true)) (c.loop-k.invariant.flags j);
}

pub invariant_of-result : goal.invariant_of-result
invariant_of-result c = (
  c.loop-k.invariant.words,
  c.self.invariant.1,
  c.self.invariant.2,
  λ k is_set.
      c.self.invariant.3 k ((both_parts _ _ (sym (c.loop-k.invariant.flags k) ∙ is_set)).0),
)

pub returns : goal.returns
returns c =
    let base = c.self.inside.base in
    let inv = c.loop-k.invariant in
    let flags = flags_in c.self.inside.words in
    let same : (k : ℕ) → k < 256 → get_or (flags_in c.loop-k.words) k false ≡ (get_or (flags_in c.self.inside.words) k false && not (leb c.args.from (base + k) && leb (base + k) c.args.to)) = λ k within.
    inv.flags k
    ∙ ap (λ t. get_or flags k false && not t) (cut_whole c.flags_below-k.result c.loop-k.k c.flags_up_to-end.result k c.loop-k-test.false inv.top)
    ∙ ap (λ t. get_or flags k false && not (t && ltb k c.flags_up_to-end.result)) (c.flags_below-k.ensures.answer k within)
    ∙ ap (λ t. get_or flags k false && not (leb c.args.from (base + k) && t)) (c.flags_up_to-end.ensures.answer k within) in
    ap (λ f. record { base = base; flags = f }) (flags_are base (λ n. has (record { base = base; flags = flags }) n && not (leb c.args.from n && leb n c.args.to)) (flags_in c.loop-k.words) (length-flags_in c.loop-k.words) (λ n low high.
    let at : base + (n - base) ≡ n = omega arith in
    rw (le-leb base n low, same (n - base) (omega arith), at) refl))
    ∙ ap (λ (s : NumberSet). set_of s.base (λ n. has s n && not (leb c.args.from n && leb n c.args.to))) c.self.view_is
