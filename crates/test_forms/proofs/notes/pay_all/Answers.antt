use Rattle.std.proofs.lemmas.List.Edits.{map_over_more}
use Rattle.dds_reader.specs.Notes.{pays_one}
use Rattle.test_forms.proofs.notes.pay_all.Goals as goal

pub loop-proxy-preserved : goal.loop-proxy-preserved
loop-proxy-preserved c =
    rw (c.pay_one.ensures, ← c.proxy-item.is)
    (map_over_more (pays_one c.args.writer) c.args.proxies.now c.loop-proxy.proxies c.loop-proxy.proxy-index c.proxy-item.result c.loop-proxy-test.true c.loop-proxy.invariant c.proxy-item.is)
