use Rattle.std.proofs.Common.{◌≡◌, ◌+◌, ◌&&◌, leb, ltb, not}
use Rattle.dds_base.specs.Sets.{has, set_of}
use Rattle.test_forms.proofs.proxies.without.Given as goal

abbrev pub invariant-loop-k : goal.invariant-loop-k
invariant-loop-k l = l.rest ≡ set_of l.base (λ n. ltb n (l.base + l.k) && (has l.set n && not (leb l.from n && leb n l.to)))
