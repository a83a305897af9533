use Rattle.std.proofs.Common.{◌≡◌, ℕ, ◌∙◌, sym, ap, position}
use Rattle.dds_base.proofs.NumberedLaws.{changed_at, changed_nowhere}
use Rattle.dds_writer.specs.Proxies.{ProxyState, is_of, after_acknack}
use Rattle.dds_writer.proofs.InOrder.{acknack_other}
use Rattle.dds_writer.proofs.proxies.acknowledge.Goals as goal

pub returns-in-Some : goal.returns-in-Some
returns-in-Some c =
    let place : c.place_of.result ≡ position (is_of c.args.reader) c.args.proxies.now = c.place_of.ensures ∙ ap (λ (r : ℕ). position (is_of r) c.args.proxies.now) c.number.ensures in
    changed_at (λ (p : ProxyState). p.reader) c.args.proxies.now (c.requires.order c.if-not-rising.false) c.args.reader c.in-Some.at (after_acknack c.args.reader c.args.set.now c.args.written) c.index-proxies-at.result c.acknowledge.new.self
    (sym place ∙ c.in-Some.is) (acknack_other c.args.reader c.args.set.now c.args.written) c.index-proxies-at.is (c.acknowledge.ensures ∙ ap (after_acknack c.args.reader c.args.set.now c.args.written) (sym c.index-proxies-at.is))

pub returns-in_default : goal.returns-in_default
returns-in_default c =
    let place : c.place_of.result ≡ position (is_of c.args.reader) c.args.proxies.now = c.place_of.ensures ∙ ap (λ (r : ℕ). position (is_of r) c.args.proxies.now) c.number.ensures in
    sym (changed_nowhere (λ (p : ProxyState). p.reader) c.args.proxies.now c.args.reader (after_acknack c.args.reader c.args.set.now c.args.written) (sym place ∙ c.in_default.is) (acknack_other c.args.reader c.args.set.now c.args.written))
