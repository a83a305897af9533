use Rattle.std.proofs.Common.{rules, ◌<◌, ◌≤ℤ◌, ℕ, pos, length, vec_len}
use Rattle.dds_simplex.specs.Line.{number_of}
use Rattle.dds_simplex.proofs.Pivots.{keeps_next, at_most}
use Rattle.dds_simplex.proofs.dictionary.Dictionary.climb.Goals as goal

pub returns-in_default-clause-bound : goal.returns-in_default-clause-bound
returns-in_default-clause-bound c = λ _.
    let greatest : (column : ℕ) → column < length c.loop-left.self.free.items → number_of c.loop-left.sum column ≤ℤ pos 0 =
    λ column h. let inside : column < vec_len c.loop-left.self.free = search (rules, h) in c.in_default.ensures.greatest column inside in
    at_most c.args.self.now c.loop-left.self c.args.sum.now c.loop-left.sum greatest c.loop-left.invariant.points

pub loop-left-preserved : goal.loop-left-preserved
loop-left-preserved c = record {
  spent = search rules;
  points = keeps_next c.args.self.now c.loop-left.self c.pivot.new.self c.args.sum.now c.loop-left.sum c.pivot.new.sum c.loop-left.invariant.points (c.in_ok-pivot.ensures.points c.in-Some.ensures.raises.0);
  den = λ above. c.in_ok-pivot.ensures.den (search rules) (c.loop-left.invariant.den above);
}
