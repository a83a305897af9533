use Rattle.std.proofs.Common.{rules, ◌≡◌, ◌*ℤ◌, IfSome, subst, to_z, of_z}
use Rattle.std.specs.Int.{w128}
use Rattle.dds_simplex.specs.Line.{IsMixed, IsPairWithout}
use Rattle.dds_simplex.proofs.Lines.{if_some, sum_from_mixed, den_from_mixed}
use Rattle.dds_simplex.proofs.line.Line.add.Goals as goal

is_mixed : (c : goal.After-mix) → IfSome c.mix.result (λ _. IsMixed c.in_ok-mine.own c.args.self.now (c.args.times *ℤ c.in_ok-mine.mine) c.args.other.now (c.args.self.now.den *ℤ c.in_ok-mine.own) c.mix.new.self)
is_mixed c =
    let own : to_z w128 (of_z w128 c.in_ok-mine.own) ≡ c.in_ok-mine.own = search rules in
    let part : to_z w128 (of_z w128 c.in_ok-part.part) ≡ c.args.times *ℤ c.in_ok-mine.mine = search rules in
    let den : to_z w128 (of_z w128 c.in_ok-den.den) ≡ c.args.self.now.den *ℤ c.in_ok-mine.own = search rules in
    subst (λ o. IfSome c.mix.result (λ _. IsMixed o c.args.self.now (c.args.times *ℤ c.in_ok-mine.mine) c.args.other.now (c.args.self.now.den *ℤ c.in_ok-mine.own) c.mix.new.self)) own
    (subst (λ d. IfSome c.mix.result (λ _. IsMixed (to_z w128 (of_z w128 c.in_ok-mine.own)) c.args.self.now (c.args.times *ℤ c.in_ok-mine.mine) c.args.other.now d c.mix.new.self)) den
    (subst (λ p. IfSome c.mix.result (λ _. IsMixed (to_z w128 (of_z w128 c.in_ok-mine.own)) c.args.self.now p c.args.other.now (to_z w128 (of_z w128 c.in_ok-den.den)) c.mix.new.self)) part c.mix.ensures.mixed))

pair : (c : goal.After-mix) → IsPairWithout c.args.self.now.den c.args.other.now.den c.in_ok-mine.mine c.in_ok-mine.own
pair c =
    let den : to_z w128 (of_z w128 c.args.self.now.den) ≡ c.args.self.now.den = search rules in
    let other : to_z w128 (of_z w128 c.args.other.now.den) ≡ c.args.other.now.den = search rules in
    subst (λ a. IsPairWithout a c.args.other.now.den c.in_ok-mine.mine c.in_ok-mine.own) den
    (subst (λ b. IsPairWithout (to_z w128 (of_z w128 c.args.self.now.den)) b c.in_ok-mine.mine c.in_ok-mine.own) other c.in_ok-mine.ensures)

pub returns-clause-added : goal.returns-clause-added
returns-clause-added c = if_some c.mix.result (sum_from_mixed c.args.times c.in_ok-mine.mine c.in_ok-mine.own c.args.self.now c.args.other.now c.mix.new.self (pair c)) (is_mixed c)

pub returns-clause-den : goal.returns-clause-den
returns-clause-den c = λ old other. if_some c.mix.result (den_from_mixed c.args.times c.in_ok-mine.mine c.in_ok-mine.own c.args.self.now c.args.other.now c.mix.new.self (pair c) old other) (is_mixed c)
