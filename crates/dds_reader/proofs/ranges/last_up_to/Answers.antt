use Rattle.std.proofs.Common.{arith}
use Rattle.std.proofs.lemmas.Grind.{common_steps}
use Rattle.std.proofs.lemmas.Map.Keys.{ge_from_not_lt}
use Rattle.dds_reader.proofs.RangeLaws.{not_gt_from_le}
use Rattle.dds_reader.proofs.ranges.last_up_to.Goals as goal

pub returns-in-Some : goal.returns-in-Some
returns-in-Some c =
    let there = (c.range.ensures.in_range tt).3 _ _ c.in-Some.ensures.steps in
    let last = (c.range.ensures.in_range tt).4 _ _ c.in-Some.ensures.steps in record {
      upto = grind (arith, common_steps, there);
      there = there.1;
      last = λ q le some. ge_from_not_lt c.in-Some.from.now q (last q (tt, not_gt_from_le q c.args.n le) some);
    }
