use Rattle.std.proofs.Common.{◌≡◌}
use Rattle.std.specs.BTreeMap.{keys}
use Rattle.std.specs.VecDeque.{deque_len}
use Rattle.dds_qos.specs.Writing.{still_awaited}
use Rattle.dds_writer.specs.Proxies.{bases_of}
use Rattle.dds_writer.proofs.history.History.trim.Given as goal

abbrev pub invariant-loop-self : goal.invariant-loop-self
invariant-loop-self l = record {
  kept : still_awaited (bases_of l.proxies) l.self.kept.items ≡ still_awaited (bases_of l.proxies) l.initial.self.kept.items;
  keys : keys l.self.counts ≡ keys l.initial.self.counts;
}

abbrev pub decreases-loop-self : goal.decreases-loop-self
decreases-loop-self l = deque_len l.self.kept
