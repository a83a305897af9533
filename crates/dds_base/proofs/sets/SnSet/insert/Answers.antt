use Rattle.std.proofs.Common.{◌≡◌, ◌||◌, ◌==◌, false, get_or, ap, sym, ◌∙◌, arith}
use Rattle.dds_base.specs.Sets.{NumberSet, has, set_of}
use Rattle.dds_base.specs.Words.{flags_in}
use Rattle.dds_base.specs.WordLaws.{length-flags_in}
use Rattle.dds_base.proofs.FlagLaws.{range_set, set_with}
use Rattle.dds_base.proofs.sets.SnSet.insert.Goals as goal

pub invariant_of-self : goal.invariant_of-self
invariant_of-self c =
    let base : c.self.inside.base ≡ c.args.self.now.base = ap (λ (s : NumberSet). s.base) c.self.view_is in (
      c.set_flag.ensures.words c.self.invariant.0,
      c.self.invariant.1,
      c.self.invariant.2,
      λ k is_set.
          range_set c.self.inside.base c.args.n k (flags_in c.self.inside.words) (omega (arith, base, c.requires.0)) (omega (arith, base, c.requires, length-flags_in c.self.inside.words)) (c.requires.2) c.self.invariant.3
          (sym (ap (λ fs. get_or fs k false) c.set_flag.ensures.flags) ∙ is_set),
    )

pub returns : goal.returns
returns c =
    let base : c.self.inside.base ≡ c.args.self.now.base = ap (λ (s : NumberSet). s.base) c.self.view_is in
    ap (λ fs. record { base = c.self.inside.base; flags = fs }) c.set_flag.ensures.flags
    ∙ set_with c.self.inside.base c.args.n (flags_in c.self.inside.words) (length-flags_in c.self.inside.words) (omega (arith, base, c.requires.0)) (omega (arith, base, c.requires))
    ∙ ap (λ (s : NumberSet). set_of s.base (λ m. has s m || (c.args.n == m))) c.self.view_is
