use Rattle.std.proofs.Common.{rules, ◌≡◌, ◌<◌, ◌*ℤ◌, pos, length, refl, subst, IfSome, to_z, of_z}
use Rattle.std.specs.Int.{w128}
use Rattle.std.specs.Vec.{with_item}
use Rattle.dds_simplex.specs.declared.line.Line.{Line}
use Rattle.dds_simplex.specs.Line.{IsMixed, IsPairWithout, number_of}
use Rattle.dds_simplex.proofs.Lines.{if_some}
use Rattle.dds_simplex.proofs.Turning.{absent_from, replaced_from, replaced_den}
use Rattle.dds_simplex.proofs.line.Line.replace.Goals as goal

pub returns-then-beta-eq0-clause-replaced : goal.returns-then-beta-eq0-clause-replaced
returns-then-beta-eq0-clause-replaced c =
    let none : number_of c.args.self.now c.args.column ≡ pos 0 = search rules in
    absent_from c.args.column c.args.given.now c.args.self.now none

pub returns-then-beta-eq0-clause-den : goal.returns-then-beta-eq0-clause-den
returns-then-beta-eq0-clause-den c = λ old given. old

-- the line with 0 in the column
abbrev mid_of : goal.After-mix → Line
mid_of c = record { den = c.args.self.now.den; constant = c.args.self.now.constant; numbers = with_item c.args.self.now.numbers c.args.column (pos 0) }

pair : (c : goal.After-mix) → IsPairWithout (number_of c.args.self.now c.args.column) c.args.given.now.den c.in_ok-part.part c.in_ok-part.own
pair c =
    let given = c.args.given.now in
    let own = c.in_ok-part.own in
    let part = c.in_ok-part.part in
    let is_beta : to_z w128 (of_z w128 c.number-beta.result) ≡ number_of c.args.self.now c.args.column = search rules in
    let is_given : to_z w128 (of_z w128 given.den) ≡ given.den = search rules in
    subst (λ b. IsPairWithout b given.den part own) is_beta (subst (λ d. IsPairWithout (to_z w128 (of_z w128 c.number-beta.result)) d part own) is_given c.in_ok-part.ensures)

is_mixed : (c : goal.After-mix) → IfSome c.mix.result (λ _. IsMixed c.in_ok-part.own (mid_of c) c.in_ok-part.part c.args.given.now (c.args.self.now.den *ℤ c.in_ok-part.own) c.mix.new.self)
is_mixed c =
    let old = c.args.self.now in
    let given = c.args.given.now in
    let own = c.in_ok-part.own in
    let part = c.in_ok-part.part in
    let is_own : to_z w128 (of_z w128 own) ≡ own = search rules in
    let is_part : to_z w128 (of_z w128 part) ≡ part = search rules in
    let is_den : to_z w128 (of_z w128 c.in_ok-den.den) ≡ old.den *ℤ own = search rules in
    subst (λ o. IfSome c.mix.result (λ _. IsMixed o (mid_of c) part given (old.den *ℤ own) c.mix.new.self)) is_own
    (subst (λ d. IfSome c.mix.result (λ _. IsMixed (to_z w128 (of_z w128 own)) (mid_of c) part given d c.mix.new.self)) is_den
    (subst (λ q. IfSome c.mix.result (λ _. IsMixed (to_z w128 (of_z w128 own)) (mid_of c) q given (to_z w128 (of_z w128 c.in_ok-den.den)) c.mix.new.self)) is_part c.mix.ensures.mixed))

pub returns-clause-replaced : goal.returns-clause-replaced
returns-clause-replaced c =
    let there : c.args.column < length c.args.self.now.numbers.items = search rules in
    if_some c.mix.result (replaced_from c.args.column c.in_ok-part.own c.in_ok-part.part c.args.given.now c.args.self.now (mid_of c) c.mix.new.self refl refl there refl (pair c)) (is_mixed c)

pub returns-clause-den : goal.returns-clause-den
returns-clause-den c = λ old given.
    if_some c.mix.result (λ m. replaced_den c.args.column c.in_ok-part.own c.in_ok-part.part c.args.given.now c.args.self.now (mid_of c) c.mix.new.self (pair c) m old given) (is_mixed c)
