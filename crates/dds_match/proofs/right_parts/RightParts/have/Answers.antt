use Rattle.std.proofs.Common.{sym, ap, subst, ◌∙◌}
use Rattle.dds_match.proofs.Parts.{IsReadBack, read_first, read_byte, read_none, read_end, no_length}
use Rattle.dds_match.proofs.right_parts.RightParts.have.Goals as goal

pub loop-byte-init : goal.loop-byte-init
loop-byte-init c = (
  tt,
  tt,
  subst (λ left. IsReadBack c.args.pattern.now c.args.self.now.name.now left 1)
      (sym (ap (λ i. i.iter.rest.now) c.into_iter-byte-iterator.ensures.into_iter_gives ∙ ap (λ i. i.rest.now) c.rev-byte-items.ensures.source ∙ c.iter.ensures.rest))
      (read_first c.args.pattern.now c.args.self.now.name.now c.args.self.now.short),
)

pub returns-then-parts-eq0 : goal.returns-then-parts-eq0
returns-then-parts-eq0 c = sym (read_none _ _ _ (subst (IsReadBack c.args.pattern.now c.args.self.now.name.now c.next.new.self.iter.rest.now) c.if-parts-eq0.true
    (read_byte _ _ _ c.in-Some.byte.now c.loop-byte.parts _ c.preceded-parts.ensures (subst (λ left. IsReadBack c.args.pattern.now c.args.self.now.name.now left c.loop-byte.parts) c.in-Some.ensures.steps c.loop-byte.invariant.2))))

pub loop-byte-preserved : goal.loop-byte-preserved
loop-byte-preserved c = (tt, tt, read_byte _ _ _ c.in-Some.byte.now c.loop-byte.parts _ c.preceded-parts.ensures (subst (λ left. IsReadBack c.args.pattern.now c.args.self.now.name.now left c.loop-byte.parts) c.in-Some.ensures.steps c.loop-byte.invariant.2))

pub returns : goal.returns
returns c = read_end c.args.pattern.now c.args.self.now.name.now c.loop-byte.parts (subst (λ left. IsReadBack c.args.pattern.now c.args.self.now.name.now left c.loop-byte.parts) (no_length _ c.in-None.ensures.steps.0) c.loop-byte.invariant.2)
