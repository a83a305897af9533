use Rattle.std.proofs.Common.{◌≡◌, ◌++◌, map, take, drop}
use Rattle.dds_writer.specs.Proxies.{after_acknack}
use Rattle.test_forms.proofs.proxies.acknowledge.Given as goal

abbrev pub invariant-loop-proxy : goal.invariant-loop-proxy
invariant-loop-proxy l =
    l.proxies ≡ map (after_acknack l.reader l.set l.written) (take l.proxy-index l.initial.proxies) ++ drop l.proxy-index l.initial.proxies
