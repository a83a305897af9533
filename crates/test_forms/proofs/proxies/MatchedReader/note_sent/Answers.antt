use Rattle.std.proofs.Common.{sym, ◌∙◌}
use Rattle.dds_writer.specs.Proxies.{ProxyState}
use Rattle.dds_writer.specs.History.{is_silent_in}
use Rattle.dds_writer.proofs.Runs.{noted_is}
use Rattle.test_forms.proofs.proxies.MatchedReader.note_sent.Goals as goal

pub returns-then-eq : goal.returns-then-eq
returns-then-eq c =
    let i = c.self.inside in
    let held : ProxyState = record { reader = c.self.inside.reader; filter = c.self.inside.filter.items; watcher = c.self.inside.watcher; base = c.self.inside.base; notes = record { sent = c.self.inside.sent; asked = c.self.inside.asked } } in
    noted_is (is_silent_in c.args.kept.now c.args.me c.args.low c.args.written) held c.args.self.now c.args.reader c.args.sn c.first_silent-from.result c.max-self-inside.result c.without-self-inside.result
    c.self.view_is (sym c.eq.ensures ∙ c.if-eq.true) c.first_silent-from.ensures c.max-self-inside.ensures c.without-self-inside.ensures
