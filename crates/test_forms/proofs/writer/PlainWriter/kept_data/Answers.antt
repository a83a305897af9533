use Rattle.std.proofs.Common.{◌≡◌, ℕ, ◌∙◌, position, get_or, ap, sym, subst, refl}
use Rattle.std.specs.Prelude.{is_some}
use Rattle.dds_base.specs.declared.sample.Sample.{Sample}
use Rattle.dds_base.specs.Messages.{DataFor, FitsData}
use Rattle.dds_base.specs.Sums.{In}
use Rattle.dds_writer.specs.Proxies.{ProxyState, proxy_of}
use Rattle.dds_writer.specs.History.{is_found}
use Rattle.dds_writer.specs.Writer.{WriterState, IsKept}
use Rattle.dds_writer.proofs.ProxyLaws.{some_in_range, if_in_range}
use Rattle.dds_writer.proofs.Relevance.{relevant_missing, data_found}
use Rattle.test_forms.proofs.writer.PlainWriter.kept_data.Goals as goal

pub returns-in_err-at-clause-found : goal.returns-in_err-at-clause-found
returns-in_err-at-clause-found c =
    let sound : IsKept c.args.self.now = subst IsKept c.self.view_is c.self.invariant.kept in
    let kept : c.deref.result.now ≡ c.args.self.now.kept = c.deref.ensures.value ∙ ap (λ (v : WriterState). v.kept) c.self.view_is in
    let proxy : c.proxy.result.now ≡ proxy_of c.args.reader c.args.self.now.proxies = c.proxy.ensures in
    let me : c.self.inside.me ≡ c.args.self.now.me = ap (λ (v : WriterState). v.me) c.self.view_is in
    let searched = ap (λ (p : ProxyState). position (is_found c.args.self.now.me c.args.sn p) c.args.self.now.kept) (sym proxy) ∙ ap (λ (w : ℕ). position (is_found w c.args.sn c.proxy.result.now) c.args.self.now.kept) (sym me)
    ∙ ap (position (is_found c.self.inside.me c.args.sn c.proxy.result.now)) (sym kept) ∙ sym c.place_of.ensures in
    ap is_some c.from_residual.ensures ∙ sym (relevant_missing c.args.self.now (proxy_of c.args.reader c.args.self.now.proxies) c.args.sn (searched ∙ c.in_err-at.was))

pub returns-clause-found : goal.returns-clause-found
returns-clause-found c =
    let sound : IsKept c.args.self.now = subst IsKept c.self.view_is c.self.invariant.kept in
    let kept : c.deref.result.now ≡ c.args.self.now.kept = c.deref.ensures.value ∙ ap (λ (v : WriterState). v.kept) c.self.view_is in
    let proxy : c.proxy.result.now ≡ proxy_of c.args.reader c.args.self.now.proxies = c.proxy.ensures in
    let me : c.self.inside.me ≡ c.args.self.now.me = ap (λ (v : WriterState). v.me) c.self.view_is in
    let searched = ap (λ (p : ProxyState). position (is_found c.args.self.now.me c.args.sn p) c.args.self.now.kept) (sym proxy) ∙ ap (λ (w : ℕ). position (is_found w c.args.sn c.proxy.result.now) c.args.self.now.kept) (sym me)
    ∙ ap (position (is_found c.self.inside.me c.args.sn c.proxy.result.now)) (sym kept) ∙ sym c.place_of.ensures in
    let sample : Sample = c.index.result.now in
    let read = c.index.ensures ∙ ap (λ (v : WriterState). get_or v.kept c.in_ok-at.at sample) c.self.view_is in
    let d = data_found c.args.self.now sound (proxy_of c.args.reader c.args.self.now.proxies) c.args.sn c.in_ok-at.at sample (searched ∙ c.in_ok-at.was) read in
    let fits : FitsData c.index.result.now = (d.from, d.upto) in
    some_in_range _ c.new.result c.new.ensures fits ∙ sym d.relevant

pub returns-clause-message : goal.returns-clause-message
returns-clause-message c =
    let sound : IsKept c.args.self.now = subst IsKept c.self.view_is c.self.invariant.kept in
    let kept : c.deref.result.now ≡ c.args.self.now.kept = c.deref.ensures.value ∙ ap (λ (v : WriterState). v.kept) c.self.view_is in
    let proxy : c.proxy.result.now ≡ proxy_of c.args.reader c.args.self.now.proxies = c.proxy.ensures in
    let me : c.self.inside.me ≡ c.args.self.now.me = ap (λ (v : WriterState). v.me) c.self.view_is in
    let searched = ap (λ (p : ProxyState). position (is_found c.args.self.now.me c.args.sn p) c.args.self.now.kept) (sym proxy) ∙ ap (λ (w : ℕ). position (is_found w c.args.sn c.proxy.result.now) c.args.self.now.kept) (sym me)
    ∙ ap (position (is_found c.self.inside.me c.args.sn c.proxy.result.now)) (sym kept) ∙ sym c.place_of.ensures in
    let sample : Sample = c.index.result.now in
    let read = c.index.ensures ∙ ap (λ (v : WriterState). get_or v.kept c.in_ok-at.at sample) c.self.view_is in
    let d = data_found c.args.self.now sound (proxy_of c.args.reader c.args.self.now.proxies) c.args.sn c.in_ok-at.at sample (searched ∙ c.in_ok-at.was) read in
    if_in_range (FitsData c.index.result.now) (λ (d : DataFor). (d.reader ≡ c.args.reader) × (d.sample.sn ≡ c.args.sn) × In d.sample c.args.self.now.kept) c.new.result (record { reader = c.args.reader; sample = sample }) c.new.ensures
    (refl, d.number, d.among)
