use Rattle.std.proofs.Common.{rules, ◌≡◌, ◌<◌, ◌≤◌, ◌+ℤ◌, ◌*ℤ◌, ℕ, pos, get_or, length, ap, ◌∙◌, to_z, of_z}
use Rattle.std.specs.Int.{w128}
use Rattle.dds_simplex.proofs.Mixing.{mixed_next, rest_next, mixed_all}
use Rattle.dds_simplex.proofs.line.mix_numbers.Goals as goal
use Rattle.dds_simplex.proofs.line.mix_numbers.Goals.{in-Some+in_ok-number, in_default}

pub loop-i-preserved : goal.loop-i-preserved
loop-i-preserved c = elim c.match-get_mut.branch [
  | in-Some+in_ok-number w ↦
      let mixed = to_z w128 (of_z w128 w.in_ok-number.field-0) in
      let own = to_z w128 (of_z w128 c.args.own) in
      let part = to_z w128 (of_z w128 c.args.part) in
      let within : c.loop-i.i < length c.loop-i.numbers.items = search rules in
      let is : mixed ≡ get_or c.loop-i.numbers.items c.loop-i.i (pos 0) *ℤ own +ℤ get_or c.args.other.now c.loop-i.i (pos 0) *ℤ part = search rules in
      rw w.numbers-is (record {
        columns = search rules;
        mixed = mixed_next own part mixed c.args.numbers.now.items c.loop-i.numbers.items c.args.other.now c.loop-i.i within is (c.loop-i.invariant.rest c.loop-i.i (search rules)) c.loop-i.invariant.mixed;
        rest = rest_next mixed c.args.numbers.now.items c.loop-i.numbers.items c.loop-i.i c.loop-i.invariant.rest;
      })
  | in_default w ↦ absurd (search rules)
]

pub returns-clause-mixed : goal.returns-clause-mixed
returns-clause-mixed c =
    let old = c.args.numbers.now.items in
    let new = c.loop-i.numbers.items in
    let other = c.args.other.now in
    let own : to_z w128 (of_z w128 c.args.own) ≡ c.args.own = search rules in
    let part : to_z w128 (of_z w128 c.args.part) ≡ c.args.part = search rules in
    let len : length new ≡ length old = search rules in
    let le : length other ≤ length old = search rules in
    let each : (k : ℕ) → k < length old → get_or new k (pos 0) ≡ get_or old k (pos 0) *ℤ c.args.own +ℤ get_or other k (pos 0) *ℤ c.args.part =
    λ k h. let inside : k < c.loop-i.i = search rules in c.loop-i.invariant.mixed k inside ∙
    ap (λ z. get_or old k (pos 0) *ℤ z +ℤ get_or other k (pos 0) *ℤ to_z w128 (of_z w128 c.args.part)) own ∙
    ap (λ z. get_or old k (pos 0) *ℤ c.args.own +ℤ get_or other k (pos 0) *ℤ z) part in
    mixed_all c.args.own c.args.part old new other len le each
