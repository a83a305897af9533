use Rattle.std.proofs.Common.{ap}
use Rattle.dds_recap.specs.declared.recap.Recap.{Recap}
use Rattle.dds_recap.proofs.Following.{spent_more}
use Rattle.dds_recap.proofs.recap.Recap.spend.Goals as goal

pub loop-taken-preserved : goal.loop-taken-preserved
loop-taken-preserved c = record {
  spent = spent_more c.args.takes.now c.loop-taken.taken-index c.number.result c.number-in-loop-taken.result c.from-count.result c.taken-item.result c.args.self.now.spent c.loop-taken.self.spent
      c.add.new.self c.loop-taken-test.true c.taken-item.is c.number.ensures c.number-in-loop-taken.ensures c.from-count.ensures c.loop-taken.invariant.spent c.in_ok-add.ensures;
  same = ap (λ (x : Recap). record x { spent = c.add.new.self }) c.loop-taken.invariant.same;
}
