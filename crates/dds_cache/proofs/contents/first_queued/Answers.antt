use Rattle.std.proofs.Common.{◌≡◌, ◌∙◌, ◌≤◌, ℕ, ap, sym, arith}
use Rattle.std.specs.Prelude.{is_some}
use Rattle.std.proofs.lemmas.Bool.{and_from, and_parts, eq-eqb, eqb-true, both_ways}
use Rattle.dds_cache.specs.Order.{Place, Held, pair_cmp}
use Rattle.dds_cache.proofs.MapLaws.{first_from, from_zero, none_from, exact_tickets}
use Rattle.dds_cache.proofs.PairLaws.{pair_is}
use Rattle.dds_cache.proofs.contents.first_queued.Goals as goal
use Rattle.dds_cache.proofs.contents.first_queued.Goals.{else-eq-via-then-eq+else-place-upto, else-eq-via-else-eq}

pub returns-in_err-place : goal.returns-in_err-place
returns-in_err-place c =
    let queue : ℕ × ℕ = (c.args.key, c.args.writer) in
    let none = (c.range.ensures.in_range tt).5 c.in_err-place.ensures.steps.0 in
    rw c.from_residual.ensures (λ n le. none (queue, n) (from_zero pair_cmp exact_tickets queue n, tt))

pub returns-then-place-upto : goal.returns-then-place-upto
returns-then-place-upto c =
    let part = c.range.ensures.in_range tt in
    let p : Place = c.in_ok-place.place.now in
    let held : Held = c.in_ok-place.held.now in
    let queue : ℕ × ℕ = (c.args.key, c.args.writer) in
    let first : Place × Held = (p, held) in
    let f = first_from pair_cmp exact_tickets c.args.places.now queue _ _ first c.in_ok-place.ensures.steps part.1 part.2 in
    let both = and_parts _ _ (sym c.eq.ensures ∙ c.if-eq.true) in
    let same : p.0 ≡ queue = pair_is p.0 queue (eqb-true p.0.0 c.args.key both.0) (eqb-true p.0.1 c.args.writer both.1) in
    (same, c.if-place-upto.true, ap is_some f.0, λ n le there. (f.1 n there).1)

pub returns-else-eq : goal.returns-else-eq
returns-else-eq c =
    let part = c.range.ensures.in_range tt in
    let p : Place = c.in_ok-place.place.now in
    let held : Held = c.in_ok-place.held.now in
    let queue : ℕ × ℕ = (c.args.key, c.args.writer) in
    let first : Place × Held = (p, held) in
    let f = first_from pair_cmp exact_tickets c.args.places.now queue _ _ first c.in_ok-place.ensures.steps part.1 part.2 in
    let miss : p.0 ≡ queue → p.1 ≤ c.args.upto → ⊥ = elim c.else-eq.branch [
      | else-eq-via-then-eq+else-place-upto w ↦ λ same le. (let above = w.if-place-upto.false in omega (arith, above, le))
      | else-eq-via-else-eq w ↦ λ same le. both_ways _ w.if-eq.false
          (c.eq.ensures ∙ and_from _ _ (eq-eqb p.0.0 c.args.key (ap (λ (q : ℕ × ℕ). q.0) same)) (eq-eqb p.0.1 c.args.writer (ap (λ (q : ℕ × ℕ). q.1) same)))
    ] in
    none_from pair_cmp c.args.places.now queue c.args.upto p f.1 miss
