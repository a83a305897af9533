use Rattle.std.proofs.Common.{arith, rules, ◌≤◌, inl, inr}
use Rattle.std.proofs.lemmas.Bool.{cases_lt}
use Rattle.dds_reader.proofs.RangeLaws.{least_here}
use Rattle.dds_reader.proofs.ranges.first_in.Goals as goal

pub returns-in-Some : goal.returns-in-Some
returns-in-Some c = let upto : c.in-Some.from.now ≤ c.args.until = search rules in record {
  after = search rules;
  upto = search rules;
  there = search rules;
  first = λ q lt some. elim (cases_lt c.args.until q) [
    | inl past ↦ omega (arith, upto)
    | inr le ↦ least_here _ _ c.args.key c.args.until q (c.in-Some.from.now, c.in-Some.end.now) c.in-Some.ensures.steps (λ within. (c.range.ensures.in_range (search rules)).2 q within some) lt le
  ];
}
