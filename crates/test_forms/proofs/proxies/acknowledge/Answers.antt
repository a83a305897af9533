use Rattle.std.proofs.lemmas.List.Edits.{map_over_more}
use Rattle.dds_writer.specs.Proxies.{after_acknack}
use Rattle.test_forms.proofs.proxies.acknowledge.Goals as goal

pub loop-proxy-preserved : goal.loop-proxy-preserved
loop-proxy-preserved c =
    rw (c.acknowledge.ensures, ← c.proxy-item.is)
    (map_over_more (after_acknack c.args.reader c.args.set.now c.args.written) c.args.proxies.now c.loop-proxy.proxies c.loop-proxy.proxy-index c.proxy-item.result c.loop-proxy-test.true c.loop-proxy.invariant c.proxy-item.is)
