use Rattle.std.proofs.Common.{◌∙◌, ◌+◌, ◌&&◌, cond, not, ap, arith}
use Rattle.std.proofs.lemmas.Result.{IfOk-weaker}
use Rattle.dds_base.proofs.CountLaws.{count_le}
use Rattle.dds_reader.specs.Ranges.{has}
use Rattle.dds_reader.proofs.GapLaws.{count_one}
use Rattle.dds_reader.proofs.ranges.Ranges.mark_one.Goals as goal

pub returns-clause-count : goal.returns-clause-count
returns-clause-count c =
    let m = c.args.self.now in
    let free = not (has m.base m.above c.args.n) in
    IfOk-weaker c.mark.result _ _ (λ k is. is ∙ count_one (λ n. not (has m.base m.above n)) c.args.n ∙ ap (λ b. cond (b && free) 1 0) c.if-not-contains.ensures.answer) c.mark.ensures.count

pub returns-clause-one : goal.returns-clause-one
returns-clause-one c =
    let m = c.args.self.now in
    IfOk-weaker c.mark.result _ _ (λ k is. omega (arith, is, count_le (λ n. not (has m.base m.above n)) c.args.n (c.args.n + 1))) c.mark.ensures.count
