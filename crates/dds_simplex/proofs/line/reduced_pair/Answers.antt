use Rattle.std.proofs.Common.{rules, ◌≡◌, ◌<◌, pos, arith, subst, unsigned_abs, FitsSigned}
use Rattle.std.specs.Int.{◌∣◌, w128}
use Rattle.std.proofs.lemmas.Int.{ints}
use Rattle.dds_simplex.proofs.Divisions.{code_exact}
use Rattle.dds_simplex.proofs.line.reduced_pair.Goals as goal

pub returns : goal.returns
returns c =
    let divisor = c.common_divisor-divisor.result in
    let is : c.in_ok-divisor.divisor ≡ pos divisor = search rules in
    let above : 0 < divisor = omega (arith, ints, is) in
    let abs : c.unsigned_abs.result ≡ unsigned_abs c.args.first = search rules in
    let abs-2 : c.unsigned_abs-2.result ≡ unsigned_abs c.args.second = search rules in
    let first : divisor ∣ unsigned_abs c.args.first = subst (λ n. divisor ∣ n) abs c.common_divisor-divisor.ensures.0 in
    let second : divisor ∣ unsigned_abs c.args.second = subst (λ n. divisor ∣ n) abs-2 c.common_divisor-divisor.ensures.1 in
    let fits : FitsSigned w128 c.in_ok-divisor.divisor = search rules in
    let first_fits : FitsSigned w128 c.args.first = search rules in
    let second_fits : FitsSigned w128 c.args.second = search rules in
    (divisor, above, code_exact c.args.first c.in_ok-divisor.divisor divisor first_fits fits above is first, code_exact c.args.second c.in_ok-divisor.divisor divisor second_fits fits above is second)
