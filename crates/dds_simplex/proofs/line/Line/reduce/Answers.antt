use Rattle.std.proofs.Common.{rules, ◌≡◌, ◌<◌, ◌*ℤ◌, pos, int_div, arith, ap, ◌∙◌, to_z, of_z, FitsSigned}
use Rattle.std.specs.Int.{w128}
use Rattle.std.proofs.lemmas.Int.{ints}
use Rattle.dds_simplex.proofs.Divisions.{code_exact}
use Rattle.dds_simplex.proofs.Fractions.{exact_division}
use Rattle.dds_simplex.specs.Line.{number_of}
use Rattle.dds_simplex.proofs.line.Line.reduce.Goals as goal

pub returns-clause-divided : goal.returns-clause-divided
returns-clause-divided c =
    let divisor = c.divisor.result in
    let old = c.args.self.now in
    let is : c.in_ok-divisor.divisor ≡ pos divisor = search rules in
    let above : 0 < divisor = omega (arith, ints, is) in
    let fits : FitsSigned w128 c.in_ok-divisor.divisor = search rules in
    let den_fits : FitsSigned w128 old.den = search rules in
    let constant_fits : FitsSigned w128 old.constant = search rules in
    let divides = c.divisor.ensures in
    let seen : to_z w128 (of_z w128 c.in_ok-divisor.divisor) ≡ pos divisor = search rules in (
      divisor,
      above,
      code_exact old.den c.in_ok-divisor.divisor divisor den_fits fits above is divides.0,
      code_exact old.constant c.in_ok-divisor.divisor divisor constant_fits fits above is divides.1,
      λ column. ap (λ z. z *ℤ pos divisor) (c.divide_numbers.ensures.divided column ∙ ap (λ z. int_div (number_of old column) z) seen) ∙ exact_division (number_of old column) divisor (divides.2 column),
    )
