use Rattle.std.specs.Prelude.{◌==◌}
use Rattle.std.specs.List.{list_all}
use Rattle.std.proofs.lemmas.List.{take_rest}
use Rattle.std.proofs.Common.{ap, ◌≡◌, false, get_or, inl, inr, sym, ◌∙◌, arith, ◌⊎◌, subst, drop}
use Rattle.std.proofs.lemmas.Bool.{both_ways, eqb-true, eqb-false, eq-eqb}
use Rattle.dds_match.specs.Partitions.{name_matches}
use Rattle.dds_match.proofs.Patterns.{fewer_steps, IsScan, passes_star, passes_byte, tries_again, gives_up, ends, stuck_at, stuck_past, stars_only}
use Rattle.dds_match.proofs.partitions.bytes_match.Goals as goal
use Rattle.dds_match.proofs.partitions.bytes_match.Goals.{else-at-pattern-via-then-at-pattern+else-pattern-at-eq42, else-at-pattern-via-else-at-pattern, then-pattern-at-eq63, else-pattern-at-eq63, else-at-pattern-2-via-then-at-pattern-2+else-pattern-at, else-at-pattern-2-via-else-at-pattern-2}

pub loop-place-preserved-then-pattern-at-eq42 : goal.loop-place-preserved-then-pattern-at-eq42
loop-place-preserved-then-pattern-at-eq42 c = passes_star _ _ _ _ c.loop-place.star c.if-at-pattern.true c.if-pattern-at-eq42.true c.loop-place.invariant

pub loop-place-smaller-then-pattern-at-eq42 : goal.loop-place-smaller-then-pattern-at-eq42
loop-place-smaller-then-pattern-at-eq42 c = fewer_steps _ _ _ _ c.loop-place.star c.if-at-pattern.true c.loop-place-test.true c.loop-place.invariant

pub loop-place-preserved-then-pattern-at : goal.loop-place-preserved-then-pattern-at
loop-place-preserved-then-pattern-at c =
    let within = c.if-at-pattern-2.true in
    let other : get_or c.args.pattern.now c.loop-place.at 0 ≡ 42 → ⊥ = elim c.else-at-pattern.branch [
      | else-at-pattern-via-then-at-pattern+else-pattern-at-eq42 w ↦ w.if-pattern-at-eq42.false
      | else-at-pattern-via-else-at-pattern w ↦ absurd (omega (arith, w.if-at-pattern.false))
    ] in
    let same : (get_or c.args.pattern.now c.loop-place.at 0 ≡ 63) ⊎ (get_or c.args.pattern.now c.loop-place.at 0 ≡ get_or c.args.name.now c.loop-place.place 0) = elim c.if-pattern-at-eq63.branch [
      | then-pattern-at-eq63 w ↦ inl w.if-pattern-at-eq63.true
      | else-pattern-at-eq63 w ↦ inr (eqb-true _ _ (sym w.value-is ∙ c.if-pattern-at.true))
    ] in
    passes_byte _ _ _ _ c.loop-place.star within c.loop-place-test.true other same c.loop-place.invariant

pub loop-place-preserved : goal.loop-place-preserved
loop-place-preserved c =
    let stuck : name_matches (drop c.loop-place.at c.args.pattern.now) (drop c.loop-place.place c.args.name.now) ≡ false = elim c.else-at-pattern-2.branch [
      | else-at-pattern-2-via-then-at-pattern-2+else-pattern-at w ↦
          let within = w.if-at-pattern-2.true in
          let other : get_or c.args.pattern.now c.loop-place.at 0 ≡ 42 → ⊥ = elim c.else-at-pattern.branch [
            | else-at-pattern-via-then-at-pattern+else-pattern-at-eq42 v ↦ v.if-pattern-at-eq42.false
            | else-at-pattern-via-else-at-pattern v ↦ absurd (omega (arith, v.if-at-pattern.false))
          ] in
          elim w.if-pattern-at-eq63.branch [
            | then-pattern-at-eq63 v ↦ absurd (both_ways _ (sym v.value-is ∙ w.if-pattern-at.false) (eq-eqb _ _ v.if-pattern-at-eq63.true))
            | else-pattern-at-eq63 v ↦ stuck_at _ _ _ _ within c.loop-place-test.true other v.if-pattern-at-eq63.false (eqb-false _ _ (sym v.value-is ∙ w.if-pattern-at.false))
          ]
      | else-at-pattern-2-via-else-at-pattern-2 w ↦ stuck_past _ _ _ _ w.if-at-pattern-2.false c.loop-place-test.true
    ] in
    let scan = subst (IsScan c.args.pattern.now c.args.name.now c.loop-place.at c.loop-place.place) c.in-Some.is c.loop-place.invariant in
    tries_again _ _ _ _ c.in-Some.last c.loop-place-test.true stuck scan

pub returns-in_default : goal.returns-in_default
returns-in_default c =
    let stuck : name_matches (drop c.loop-place.at c.args.pattern.now) (drop c.loop-place.place c.args.name.now) ≡ false = elim c.else-at-pattern-2.branch [
      | else-at-pattern-2-via-then-at-pattern-2+else-pattern-at w ↦
          let within = w.if-at-pattern-2.true in
          let other : get_or c.args.pattern.now c.loop-place.at 0 ≡ 42 → ⊥ = elim c.else-at-pattern.branch [
            | else-at-pattern-via-then-at-pattern+else-pattern-at-eq42 v ↦ v.if-pattern-at-eq42.false
            | else-at-pattern-via-else-at-pattern v ↦ absurd (omega (arith, v.if-at-pattern.false))
          ] in
          elim w.if-pattern-at-eq63.branch [
            | then-pattern-at-eq63 v ↦ absurd (both_ways _ (sym v.value-is ∙ w.if-pattern-at.false) (eq-eqb _ _ v.if-pattern-at-eq63.true))
            | else-pattern-at-eq63 v ↦ stuck_at _ _ _ _ within c.loop-place-test.true other v.if-pattern-at-eq63.false (eqb-false _ _ (sym v.value-is ∙ w.if-pattern-at.false))
          ]
      | else-at-pattern-2-via-else-at-pattern-2 w ↦ stuck_past _ _ _ _ w.if-at-pattern-2.false c.loop-place-test.true
    ] in
    let scan = subst (IsScan c.args.pattern.now c.args.name.now c.loop-place.at c.loop-place.place) c.in_default.is c.loop-place.invariant in
    sym (gives_up _ _ _ _ stuck scan)

pub returns : goal.returns
returns c = c.has_only_stars.ensures ∙ ap (list_all (λ b. b == 42)) (take_rest c.args.pattern.now c.loop-place.at) ∙ stars_only _ ∙ sym (ends _ _ _ _ c.loop-place.star c.loop-place-test.false c.loop-place.invariant)
