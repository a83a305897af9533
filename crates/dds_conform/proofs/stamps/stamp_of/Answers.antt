use Rattle.std.proofs.Common.{arith}
use Rattle.std.proofs.lemmas.Str.Pattern.{split_once_first}
use Rattle.dds_conform.proofs.Stamped.{stamp_uncut}
use Rattle.dds_conform.proofs.stamps.stamp_of.Goals as goal

pub returns-in-None : goal.returns-in-None
returns-in-None c = stamp_uncut c.args.line.now (rw c.in-None.is at (split_once_first 32 c.args.line.now c.split_once.result c.split_once.ensures.cases (omega arith)))
