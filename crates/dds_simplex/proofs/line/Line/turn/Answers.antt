use Rattle.std.proofs.Common.{rules, ◌≡◌, ◌<◌, length, refl, to_z, of_z}
use Rattle.std.proofs.Math.IntN.{neg_ℤ}
use Rattle.std.specs.Int.{w128}
use Rattle.std.specs.Vec.{with_item}
use Rattle.dds_simplex.specs.declared.line.Line.{Line}
use Rattle.dds_simplex.specs.Line.{number_of}
use Rattle.dds_simplex.proofs.Lines.{if_some}
use Rattle.dds_simplex.proofs.Turning.{turned_from, turned_den}
use Rattle.dds_simplex.proofs.line.Line.turn.Goals as goal

pub returns-clause-turned : goal.returns-clause-turned
returns-clause-turned c =
    let old = c.args.self.now in
    let own = to_z w128 (of_z w128 c.in_ok-own.own) in
    let mid : Line = record { den = to_z w128 (of_z w128 c.in_ok-den.den); constant = old.constant; numbers = with_item old.numbers c.args.column own } in
    let there : c.args.column < length old.numbers.items = search rules in
    let is_den : to_z w128 (of_z w128 c.in_ok-den.den) ≡ neg_ℤ (number_of old c.args.column) = search rules in
    let is_own : own ≡ neg_ℤ old.den = search rules in
    if_some c.reduce.result (turned_from c.args.column own old mid c.reduce.new.self there is_den refl refl is_own) c.reduce.ensures.divided

pub returns-clause-den : goal.returns-clause-den
returns-clause-den c = λ below.
    let old = c.args.self.now in
    let own = to_z w128 (of_z w128 c.in_ok-own.own) in
    let mid : Line = record { den = to_z w128 (of_z w128 c.in_ok-den.den); constant = old.constant; numbers = with_item old.numbers c.args.column own } in
    let is_den : to_z w128 (of_z w128 c.in_ok-den.den) ≡ neg_ℤ (number_of old c.args.column) = search rules in
    if_some c.reduce.result (turned_den c.args.column old mid c.reduce.new.self is_den below) c.reduce.ensures.divided
