use Rattle.std.proofs.Common.{rules, ◌≡◌, ◌≤◌, pos, get_or, length, unsigned_abs, subst, arith}
use Rattle.std.specs.Int.{◌∣◌}
use Rattle.std.proofs.Math.Nat.{one-dvd}
use Rattle.std.proofs.lemmas.Nat.Gcd.{dvd_trans}
use Rattle.dds_simplex.proofs.Divisors.{divides_next, divides_all}
use Rattle.dds_simplex.specs.Line.{number_of}
use Rattle.dds_simplex.proofs.line.Line.divisor.Goals as goal

pub loop-number-init : goal.loop-number-init
loop-number-init c =
    let den : c.unsigned_abs.result ≡ unsigned_abs c.args.self.now.den = search rules in
    let constant : c.unsigned_abs-2.result ≡ unsigned_abs c.args.self.now.constant = search rules in
    record {
      den = subst (λ n. c.common_divisor-found.result ∣ n) den c.common_divisor-found.ensures.0;
      constant = subst (λ n. c.common_divisor-found.result ∣ n) constant c.common_divisor-found.ensures.1;
      numbers = λ k h. absurd (omega (arith, h));
    }

pub returns-then-found-eq1 : goal.returns-then-found-eq1
returns-then-found-eq1 c = (one-dvd (unsigned_abs c.args.self.now.den), one-dvd (unsigned_abs c.args.self.now.constant), λ column. one-dvd (unsigned_abs (number_of c.args.self.now column)))

pub loop-number-preserved : goal.loop-number-preserved
loop-number-preserved c =
    let less = c.common_divisor-found-in-loop-number.result in
    let found = c.loop-number.found in
    let numbers = c.args.self.now.numbers.items in
    let le : less ∣ found = c.common_divisor-found-in-loop-number.ensures.0 in
    let here : c.unsigned_abs-in-loop-number.result ≡ unsigned_abs (get_or numbers c.loop-number.number-index (pos 0)) = search rules in
    record {
      den = dvd_trans less le c.loop-number.invariant.den;
      constant = dvd_trans less le c.loop-number.invariant.constant;
      numbers = divides_next found less numbers c.loop-number.number-index le (subst (λ n. less ∣ n) here c.common_divisor-found-in-loop-number.ensures.1) c.loop-number.invariant.numbers;
    }

pub returns : goal.returns
returns c =
    let whole : length c.args.self.now.numbers.items ≤ c.loop-number.number-index = search rules in
    (c.loop-number.invariant.den, c.loop-number.invariant.constant, divides_all c.loop-number.found c.loop-number.number-index c.args.self.now.numbers.items whole c.loop-number.invariant.numbers)
