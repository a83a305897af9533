use Rattle.std.proofs.Common.{◌≡◌, ◌≤◌, ◌+◌, ◌++◌, map, length}
use Rattle.std.specs.Vec.{vec_len, vec_capacity}
use Rattle.std.specs.Vec.Iter.{into_iter_items, into_iter_len}
use Rattle.dds_writer.specs.Proxies.{opening_proxy}
use Rattle.test_forms.proofs.proxies.open.Given as goal

abbrev pub invariant-loop-proxy : goal.invariant-loop-proxy
invariant-loop-proxy l = record {
  can_next : (goal.iterator-loop-proxy).can_next l.proxy-iterator;
  is_finite : (goal.iterator-loop-proxy).is_finite l.proxy-iterator;
  counted : into_iter_len l.proxy-iterator ≡ length (into_iter_items l.proxy-iterator);
  all : l.fn.proxies.items ≡ l.yielded ++ into_iter_items l.proxy-iterator;
  room : vec_len l.matched + into_iter_len l.proxy-iterator ≤ vec_capacity l.matched;
  made : l.matched.items ≡ map (opening_proxy l.written) l.yielded;
}
