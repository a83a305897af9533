use Rattle.std.proofs.Common.{◌≡◌, ap, refl, false}
use Rattle.dds_base.specs.Messages.{GapFor, FitsGap}
use Rattle.dds_base.specs.Sets.{set_of}
use Rattle.dds_qos.specs.Writing.{gap_of}
use Rattle.dds_writer.specs.Proxies.{proxy_of}
use Rattle.dds_writer.specs.Writer.{WriterState, is_relevant}
use Rattle.dds_writer.proofs.ProxyLaws.{if_in_range}
use Rattle.test_forms.proofs.writer.PlainWriter.kept_gap.Goals as goal

pub returns-clause-message : goal.returns-clause-message
returns-clause-message c =
    let made = rw c.in_ok-new.was at c.new.ensures in
    let set : c.in_ok-new.field-0 ≡ set_of c.gap_end-end.result (λ n. false) = made.1 in
    let me : c.self.inside.me ≡ c.args.self.now.me = ap (λ (v : WriterState). v.me) c.self.view_is in
    let relevant = is_relevant c.args.self.now (proxy_of c.args.reader c.args.self.now.proxies) in
    if_in_range (FitsGap c.args.start c.in_ok-new.field-0) (λ (g : GapFor). g ≡ gap_of c.args.self.now.me c.args.reader relevant c.args.self.now.written c.args.start)
    c.new-2.result (record { writer = c.self.inside.me; reader = c.args.reader; start = c.args.start; set = c.in_ok-new.field-0 }) c.new-2.ensures
    (rw (set, me, c.gap_end-end.ensures.end) refl)
