use Rattle.std.proofs.Common.{rules, ◌≡◌, ◌+ℤ◌, ◌*ℤ◌, ℕ, pos, get_or, ap, ◌∙◌, to_z, of_z}
use Rattle.std.specs.Int.{w128}
use Rattle.dds_simplex.specs.declared.line.Line.{Line}
use Rattle.dds_simplex.specs.Line.{number_of}
use Rattle.dds_simplex.proofs.Lines.{if_some, mixed_from}
use Rattle.dds_simplex.proofs.line.Line.mix.Goals as goal

pub returns-clause-mixed : goal.returns-clause-mixed
returns-clause-mixed c =
    let old = c.args.self.now in
    let other = c.args.other.now in
    let mid : Line = record { den = to_z w128 (of_z w128 c.args.den); constant = to_z w128 (of_z w128 c.in_ok-self.field-0); numbers = c.mix_numbers.new.numbers } in
    let den : to_z w128 (of_z w128 c.args.den) ≡ c.args.den = search rules in
    let own : to_z w128 (of_z w128 c.args.own) ≡ c.args.own = search rules in
    let part : to_z w128 (of_z w128 c.args.part) ≡ c.args.part = search rules in
    let others : c.deref.result.now ≡ other.numbers.items = search rules in
    let constant : to_z w128 (of_z w128 c.in_ok-self.field-0) ≡ old.constant *ℤ c.args.own +ℤ other.constant *ℤ c.args.part = search rules in
    let each : (column : ℕ) → number_of mid column ≡ number_of old column *ℤ c.args.own +ℤ number_of other column *ℤ c.args.part =
    λ column. c.in_ok-mix_numbers.ensures.mixed column ∙
    ap (λ z. number_of old column *ℤ z +ℤ get_or c.deref.result.now column (pos 0) *ℤ to_z w128 (of_z w128 c.args.part)) own ∙
    ap (λ z. number_of old column *ℤ c.args.own +ℤ get_or c.deref.result.now column (pos 0) *ℤ z) part ∙
    ap (λ xs. number_of old column *ℤ c.args.own +ℤ get_or xs column (pos 0) *ℤ c.args.part) others in
    if_some c.reduce.result (mixed_from c.args.own c.args.part c.args.den old other mid c.reduce.new.self den constant each) c.reduce.ensures.divided
