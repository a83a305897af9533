use Rattle.std.proofs.Common.{◌≡◌, true, false, arith}
use Rattle.std.proofs.lemmas.Bool.{false≢true}
use Rattle.dds_base.proofs.NumberedLaws.{rising_more, rising_broken}
use Rattle.dds_base.proofs.numbered.are_rising.Goals as goal

pub loop-at-preserved : goal.loop-at-preserved
loop-at-preserved g c =
    rising_more g.T.Numbered.number_of c.args.entries.now c.loop-at.at c.index-entries-at-in-loop-at.result c.index-entries-at.result (omega arith) (omega arith) c.loop-at.invariant
    c.index-entries-at-in-loop-at.is c.index-entries-at.is (omega (arith, c.number.ensures, c.number-in-loop-at.ensures))

pub returns-then-number : goal.returns-then-number
returns-then-number g c = (
  λ (e : false ≡ true). absurd (false≢true e),
  λ rising. absurd (rising_broken g.T.Numbered.number_of c.args.entries.now c.loop-at.at c.index-entries-at-in-loop-at.result c.index-entries-at.result (omega arith) (omega arith)
      c.index-entries-at-in-loop-at.is c.index-entries-at.is (omega (arith, c.number.ensures, c.number-in-loop-at.ensures)) rising),
)
