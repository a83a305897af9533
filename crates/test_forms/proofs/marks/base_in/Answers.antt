use Rattle.std.proofs.Common.{sym, arith, inr}
use Rattle.dds_qos.proofs.BaseLaws.{base_is}
use Rattle.dds_reader.specs.Marks.{in_marks}
use Rattle.test_forms.proofs.marks.base_in.Goals as goal

pub returns-clause-base : goal.returns-clause-base
returns-clause-base c = sym (base_is (λ n. in_marks c.args.marks.now c.args.writer n) c.loop-end.at c.loop-end.invariant.low (omega (arith, c.loop-end.invariant.high)) c.loop-end.invariant.least (inr c.in_default.ensures))
