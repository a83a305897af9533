use Rattle.std.proofs.Common.{◌≡◌, ◌∙◌, false, Some, None, get_or, position, sym, ap, subst}
use Rattle.std.proofs.lemmas.Option.{none-some, same_Some}
use Rattle.dds_base.specs.declared.sample.Sample.{Sample}
use Rattle.dds_writer.specs.Proxies.{ProxyState, proxy_of}
use Rattle.dds_writer.specs.Writer.{WriterState, IsKept, IsHeld}
use Rattle.dds_writer.proofs.Watches.{unsent, due_kept, due_last, due_none}
use Rattle.test_forms.proofs.writer.PlainWriter.watch_due.Goals as goal

pub returns-in-Some : goal.returns-in-Some
returns-in-Some c =
    let sound : IsKept c.args.self.now = subst IsKept c.self.view_is c.self.invariant.kept in
    let held : IsHeld c.args.self.now = subst IsHeld c.self.view_is c.self.invariant.held in
    let proxy : c.proxy-proxy.result.now ≡ proxy_of c.args.reader c.args.self.now.proxies = c.proxy-proxy.ensures in
    let kept : c.deref.result.now ≡ c.args.self.now.kept = c.deref.ensures.value ∙ ap (λ (v : WriterState). v.kept) c.self.view_is in
    let found = ap (λ (p : ProxyState). position (unsent p) c.args.self.now.kept) (sym proxy) ∙ ap (position (unsent c.proxy-proxy.result.now)) (sym kept) ∙ sym c.next_unsent.ensures ∙ c.in-Some.is in
    let sample : Sample = c.index.result.now in
    let read = c.index.ensures ∙ ap (λ (v : WriterState). get_or v.kept c.in-Some.at sample) c.self.view_is in
    due_kept c.args.self.now sound held (proxy_of c.args.reader c.args.self.now.proxies) c.in-Some.at sample found read

pub returns-in_err-sample : goal.returns-in_err-sample
returns-in_err-sample c =
    let sound : IsKept c.args.self.now = subst IsKept c.self.view_is c.self.invariant.kept in
    let held : IsHeld c.args.self.now = subst IsHeld c.self.view_is c.self.invariant.held in
    let proxy : c.proxy-proxy.result.now ≡ proxy_of c.args.reader c.args.self.now.proxies = c.proxy-proxy.ensures in
    let kept : c.deref.result.now ≡ c.args.self.now.kept = c.deref.ensures.value ∙ ap (λ (v : WriterState). v.kept) c.self.view_is in
    let missing = ap (λ (p : ProxyState). position (unsent p) c.args.self.now.kept) (sym proxy) ∙ ap (position (unsent c.proxy-proxy.result.now)) (sym kept) ∙ sym c.next_unsent.ensures ∙ c.in_default.is in
    let none : c.args.self.now.last ≡ None = sym (ap (λ (v : WriterState). v.last) c.self.view_is) ∙ c.in_err-sample.was in
    c.from_residual.ensures ∙ due_none c.args.self.now sound held (proxy_of c.args.reader c.args.self.now.proxies) missing (λ x e. absurd (none-some x (sym none ∙ e)))

pub returns-then-is_unsent : goal.returns-then-is_unsent
returns-then-is_unsent c =
    let sound : IsKept c.args.self.now = subst IsKept c.self.view_is c.self.invariant.kept in
    let held : IsHeld c.args.self.now = subst IsHeld c.self.view_is c.self.invariant.held in
    let proxy : c.proxy-proxy.result.now ≡ proxy_of c.args.reader c.args.self.now.proxies = c.proxy-proxy.ensures in
    let kept : c.deref.result.now ≡ c.args.self.now.kept = c.deref.ensures.value ∙ ap (λ (v : WriterState). v.kept) c.self.view_is in
    let missing = ap (λ (p : ProxyState). position (unsent p) c.args.self.now.kept) (sym proxy) ∙ ap (position (unsent c.proxy-proxy.result.now)) (sym kept) ∙ sym c.next_unsent.ensures ∙ c.in_default.is in
    let last : c.args.self.now.last ≡ Some c.in_ok-sample.sample = sym (ap (λ (v : WriterState). v.last) c.self.view_is) ∙ c.in_ok-sample.was in
    let new = ap (λ (p : ProxyState). unsent p c.in_ok-sample.sample) (sym proxy) ∙ sym c.is_unsent.ensures ∙ c.if-is_unsent.true in
    due_last c.args.self.now sound held (proxy_of c.args.reader c.args.self.now.proxies) missing c.in_ok-sample.sample c.requires.watching last new

pub returns-else-is_unsent : goal.returns-else-is_unsent
returns-else-is_unsent c =
    let sound : IsKept c.args.self.now = subst IsKept c.self.view_is c.self.invariant.kept in
    let held : IsHeld c.args.self.now = subst IsHeld c.self.view_is c.self.invariant.held in
    let proxy : c.proxy-proxy.result.now ≡ proxy_of c.args.reader c.args.self.now.proxies = c.proxy-proxy.ensures in
    let kept : c.deref.result.now ≡ c.args.self.now.kept = c.deref.ensures.value ∙ ap (λ (v : WriterState). v.kept) c.self.view_is in
    let missing = ap (λ (p : ProxyState). position (unsent p) c.args.self.now.kept) (sym proxy) ∙ ap (position (unsent c.proxy-proxy.result.now)) (sym kept) ∙ sym c.next_unsent.ensures ∙ c.in_default.is in
    let last : c.args.self.now.last ≡ Some c.in_ok-sample.sample = sym (ap (λ (v : WriterState). v.last) c.self.view_is) ∙ c.in_ok-sample.was in
    let old = ap (λ (p : ProxyState). unsent p c.in_ok-sample.sample) (sym proxy) ∙ sym c.is_unsent.ensures ∙ c.if-is_unsent.false in
    due_none c.args.self.now sound held (proxy_of c.args.reader c.args.self.now.proxies) missing
    (λ x e. subst (λ (y : Sample). unsent (proxy_of c.args.reader c.args.self.now.proxies) y ≡ false) (same_Some c.in_ok-sample.sample x (sym last ∙ e)) old)
