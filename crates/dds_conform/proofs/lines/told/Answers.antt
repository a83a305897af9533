use Rattle.std.proofs.Common.{sym, ◌∙◌, arith}
use Rattle.std.proofs.lemmas.Str.Pattern.{split_once_first}
use Rattle.dds_conform.proofs.Told.{told_some, told_uncut, told_untimed}
use Rattle.dds_conform.proofs.lines.told.Goals as goal

pub returns-then-is_head-clause-some : goal.returns-then-is_head-clause-some
returns-then-is_head-clause-some c =
    let cut = rw c.in-Some.is at (split_once_first 32 c.args.line.now c.split_once.result c.split_once.ensures.cases (omega arith)) in
    told_some c.args.line.now c.in-Some.time.now c.in-Some.text.now cut (sym c.is_head.ensures ∙ c.if-is_head.true)

pub returns-else-is_head-clause-none : goal.returns-else-is_head-clause-none
returns-else-is_head-clause-none c =
    let cut = rw c.in-Some.is at (split_once_first 32 c.args.line.now c.split_once.result c.split_once.ensures.cases (omega arith)) in
    told_untimed c.args.line.now c.in-Some.time.now c.in-Some.text.now cut (sym c.is_head.ensures ∙ c.if-is_head.false)

pub returns-in-None-clause-none : goal.returns-in-None-clause-none
returns-in-None-clause-none c =
    let cut = rw c.in-None.is at (split_once_first 32 c.args.line.now c.split_once.result c.split_once.ensures.cases (omega arith)) in
    told_uncut c.args.line.now cut
