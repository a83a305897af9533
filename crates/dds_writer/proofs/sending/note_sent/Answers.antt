use Rattle.std.proofs.Common.{◌≡◌, ℕ, ◌∙◌, sym, ap, position}
use Rattle.dds_base.proofs.NumberedLaws.{changed_at, changed_nowhere}
use Rattle.dds_writer.specs.Proxies.{ProxyState, is_of, after_message}
use Rattle.dds_writer.specs.History.{is_silent_in}
use Rattle.dds_writer.proofs.InOrder.{message_other}
use Rattle.dds_writer.proofs.sending.note_sent.Goals as goal

pub returns-in-Some : goal.returns-in-Some
returns-in-Some c =
    let place : c.place_of.result ≡ position (is_of c.args.reader) c.args.proxies.now = c.place_of.ensures ∙ ap (λ (r : ℕ). position (is_of r) c.args.proxies.now) c.number.ensures in
    changed_at (λ (p : ProxyState). p.reader) c.args.proxies.now (c.requires.order c.if-not-rising.false) c.args.reader c.in-Some.at (after_message c.args.reader (is_silent_in c.args.history.now.kept.items c.args.me c.args.low c.args.written) c.args.sn) c.index-proxies-at.result c.note_sent.new.self
    (sym place ∙ c.in-Some.is) (message_other c.args.reader (is_silent_in c.args.history.now.kept.items c.args.me c.args.low c.args.written) c.args.sn) c.index-proxies-at.is (c.note_sent.ensures ∙ ap (after_message c.args.reader (is_silent_in c.args.history.now.kept.items c.args.me c.args.low c.args.written) c.args.sn) (sym c.index-proxies-at.is))

pub returns-in_default : goal.returns-in_default
returns-in_default c =
    let place : c.place_of.result ≡ position (is_of c.args.reader) c.args.proxies.now = c.place_of.ensures ∙ ap (λ (r : ℕ). position (is_of r) c.args.proxies.now) c.number.ensures in
    sym (changed_nowhere (λ (p : ProxyState). p.reader) c.args.proxies.now c.args.reader (after_message c.args.reader (is_silent_in c.args.history.now.kept.items c.args.me c.args.low c.args.written) c.args.sn) (sym place ∙ c.in_default.is) (message_other c.args.reader (is_silent_in c.args.history.now.kept.items c.args.me c.args.low c.args.written) c.args.sn))
