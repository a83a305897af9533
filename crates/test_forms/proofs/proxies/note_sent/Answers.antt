use Rattle.std.proofs.lemmas.List.Edits.{map_over_more}
use Rattle.dds_writer.specs.Proxies.{after_message}
use Rattle.dds_writer.specs.History.{is_silent_in}
use Rattle.test_forms.proofs.proxies.note_sent.Goals as goal

pub loop-proxy-preserved : goal.loop-proxy-preserved
loop-proxy-preserved c =
    rw (c.note_sent.ensures, ← c.proxy-item.is)
    (map_over_more (after_message c.args.reader (is_silent_in c.args.kept.now c.args.me c.args.low c.args.written) c.args.sn) c.args.proxies.now c.loop-proxy.proxies c.loop-proxy.proxy-index c.proxy-item.result c.loop-proxy-test.true c.loop-proxy.invariant c.proxy-item.is)
