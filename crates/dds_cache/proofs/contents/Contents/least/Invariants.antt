use Rattle.std.proofs.Common.{take}
use Rattle.dds_cache.specs.Least.{IsBest}
use Rattle.dds_cache.proofs.contents.Contents.least.Given as goal

abbrev pub invariant-loop-listed : goal.invariant-loop-listed
invariant-loop-listed l = IsBest l.self.order.places l.writers l.key (take l.listed-index l.writers) l.best
