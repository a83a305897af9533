use Rattle.std.proofs.Common.{rules, ◌≡◌, ◌<◌, ◌∷◌, ◌<ℤ◌, ℕ, pos, get_or, length, subst, sym}
use Rattle.std.specs.List.Sorted.{IsPermutation}
use Rattle.std.proofs.lemmas.List.Sorted.{IsPermutation-swap_remove}
use Rattle.dds_simplex.specs.declared.dictionary.Basic.{Basic}
use Rattle.dds_simplex.specs.Line.{number_of}
use Rattle.dds_simplex.specs.Points.{IsBasicReplaced, IsReplaced, IsTurned}
use Rattle.dds_simplex.proofs.Lines.{anyway, from_some, on_ok}
use Rattle.dds_simplex.proofs.Pivots.{pivot_points}
use Rattle.dds_simplex.proofs.dictionary.Dictionary.pivot.Goals as goal

pub returns-clause-points : goal.returns-clause-points
returns-clause-points c = λ there.
    let old = c.args.self.now in
    let given = c.swap_remove-given.result in
    let swapped = c.swap_remove-given.new.self.items in
    let replaced = c.replace_each.new.basics.items in
    let turned = c.turn.new.self in
    let column = c.args.column in
    let inside : c.args.place < length old.basics.items = search rules in
    let within : column < length old.free.items = search (rules, there) in
    let moved : IsPermutation old.basics.items (given ∷ swapped) =
    subst (λ xs. IsPermutation old.basics.items (given ∷ xs)) (sym c.swap_remove-given.ensures.items) (IsPermutation-swap_remove old.basics.items c.args.place given inside c.swap_remove-given.ensures.value) in
    let is_turned : IsTurned column given.line turned = from_some c.turn.result c.in_ok-ok_or.field-0 c.in_ok-ok_or.ensures.ok_part c.turn.ensures.turned in
    let len : length replaced ≡ length swapped = search rules in
    let each : (k : ℕ) (other : Basic) → k < length swapped → IsBasicReplaced column turned (get_or swapped k other) (get_or replaced k other) =
    λ k other h. from_some c.replace_each.result c.in_ok-ok_or-2.field-0 c.in_ok-ok_or-2.ensures.ok_part c.replace_each.ensures.lines k other (search (rules, h)) in
    let is_sum : IsReplaced column turned c.args.sum.now c.replace.new.self = from_some c.replace.result c.in_ok-ok_or-3.field-0 c.in_ok-ok_or-3.ensures.ok_part c.replace.ensures.replaced in
    on_ok c.exchange.result (λ x. pivot_points column old c.exchange.new.self given swapped replaced turned c.args.sum.now c.replace.new.self within moved is_turned len each is_sum x.0 x.1) (c.exchange.ensures.exchanged there)

pub returns-clause-den : goal.returns-clause-den
returns-clause-den c = λ falls above.
    let given = c.swap_remove-given.result in
    let below : number_of given.line c.args.column <ℤ pos 0 = subst (λ b. number_of b.line c.args.column <ℤ pos 0) (sym c.swap_remove-given.ensures.value) (falls given) in
    let turned : pos 0 <ℤ c.turn.new.self.den = from_some c.turn.result c.in_ok-ok_or.field-0 c.in_ok-ok_or.ensures.ok_part (c.turn.ensures.den below) in
    let den : pos 0 <ℤ c.replace.new.self.den = from_some c.replace.result c.in_ok-ok_or-3.field-0 c.in_ok-ok_or-3.ensures.ok_part (c.replace.ensures.den above turned) in
    anyway c.exchange.result den
