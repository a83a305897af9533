use Rattle.std.proofs.Common.{◌≡◌, false, length, nat_le}
use Rattle.std.proofs.lemmas.Bool.{lt-leb}
use Rattle.dds_xml.proofs.participants.content_filter.Goals as goal

pub returns : goal.returns
returns c =
    let keys = length c.args.keys.now in
    let filter = length c.args.filter.now in
    let fewer : nat_le keys filter ≡ false = lt-leb keys filter (rw c.len.ensures at c.if-len-filter.false) in
    rw fewer (rw c.in_ok-expression.ensures at c.format.ensures.ok)
