use Rattle.std.proofs.Common.{List, ◌≡◌, ◌∙◌, ◌≤◌, max, cond, true, false, Some, ap, sym, arith}
use Rattle.dds_base.specs.declared.sample.Sample.{Sample}
use Rattle.dds_qos.specs.declared.notes.Due.TheVariants.{Data, Gap}
use Rattle.dds_qos.specs.Writing.{is_relevant_in}
use Rattle.dds_writer.specs.Proxies.{ProxyState, proxy_of, hears, wants}
use Rattle.dds_writer.specs.Writer.{WriterState, is_relevant}
use Rattle.dds_writer.proofs.Relevance.{due_found, due_nowhere}
use Rattle.test_forms.proofs.writer.PlainWriter.kept_due.Goals as goal

pub returns-in_err-sn : goal.returns-in_err-sn
returns-in_err-sn c =
    let proxy : c.proxy-proxy.result.now ≡ proxy_of c.args.reader c.args.self.now.proxies = c.proxy-proxy.ensures in
    let from : c.max.result ≡ max (proxy_of c.args.reader c.args.self.now.proxies).base 1 = c.max.ensures ∙ ap (λ b. max b 1) (c.base.ensures ∙ ap (λ (p : ProxyState). p.base) proxy) in
    let same : c.self.inside.written ≡ c.args.self.now.written = ap (λ (v : WriterState). v.written) c.self.view_is in
    let fails = rw c.in_err-sn.was at c.next_wanted.ensures in
    c.from_residual.ensures ∙ sym (due_nowhere c.args.self.now c.args.reader c.requires.matched c.requires.reliable c.max.result from (λ n a b. ap (λ (p : ProxyState). wants p n) (sym proxy) ∙ fails n a (let le : n ≤ c.self.inside.written = omega arith in le)))

pub returns-then-is_relevant : goal.returns-then-is_relevant
returns-then-is_relevant c =
    let proxy : c.proxy-proxy.result.now ≡ proxy_of c.args.reader c.args.self.now.proxies = c.proxy-proxy.ensures in
    let from : c.max.result ≡ max (proxy_of c.args.reader c.args.self.now.proxies).base 1 = c.max.ensures ∙ ap (λ b. max b 1) (c.base.ensures ∙ ap (λ (p : ProxyState). p.base) proxy) in
    let same : c.self.inside.written ≡ c.args.self.now.written = ap (λ (v : WriterState). v.written) c.self.view_is in
    let is = rw c.in_ok-sn.was at c.next_wanted.ensures in
    let high = is.1 in
    let rel : is_relevant c.args.self.now (proxy_of c.args.reader c.args.self.now.proxies) c.in_ok-sn.sn ≡ true =
    ap (λ (p : ProxyState). is_relevant_in (hears p) c.args.self.now.kept c.args.self.now.me c.in_ok-sn.sn) (sym proxy) ∙ ap (λ (v : WriterState). is_relevant_in (hears c.proxy-proxy.result.now) v.kept v.me c.in_ok-sn.sn) (sym c.self.view_is)
    ∙ ap (λ (l : List Sample). is_relevant_in (hears c.proxy-proxy.result.now) l c.self.inside.me c.in_ok-sn.sn) (sym c.deref.ensures.value) ∙ sym c.if-is_relevant.ensures in
    sym (due_found c.args.self.now c.args.reader c.requires.matched c.requires.reliable c.max.result c.in_ok-sn.sn from is.0 (omega arith) (ap (λ (p : ProxyState). wants p c.in_ok-sn.sn) (sym proxy) ∙ is.2)
    (λ n a b. ap (λ (p : ProxyState). wants p n) (sym proxy) ∙ is.3 n a b) ∙ ap (λ b. Some (cond b (Data c.in_ok-sn.sn) (Gap c.in_ok-sn.sn))) rel)

pub returns-else-is_relevant : goal.returns-else-is_relevant
returns-else-is_relevant c =
    let proxy : c.proxy-proxy.result.now ≡ proxy_of c.args.reader c.args.self.now.proxies = c.proxy-proxy.ensures in
    let from : c.max.result ≡ max (proxy_of c.args.reader c.args.self.now.proxies).base 1 = c.max.ensures ∙ ap (λ b. max b 1) (c.base.ensures ∙ ap (λ (p : ProxyState). p.base) proxy) in
    let same : c.self.inside.written ≡ c.args.self.now.written = ap (λ (v : WriterState). v.written) c.self.view_is in
    let is = rw c.in_ok-sn.was at c.next_wanted.ensures in
    let high = is.1 in
    let rel : is_relevant c.args.self.now (proxy_of c.args.reader c.args.self.now.proxies) c.in_ok-sn.sn ≡ false =
    ap (λ (p : ProxyState). is_relevant_in (hears p) c.args.self.now.kept c.args.self.now.me c.in_ok-sn.sn) (sym proxy) ∙ ap (λ (v : WriterState). is_relevant_in (hears c.proxy-proxy.result.now) v.kept v.me c.in_ok-sn.sn) (sym c.self.view_is)
    ∙ ap (λ (l : List Sample). is_relevant_in (hears c.proxy-proxy.result.now) l c.self.inside.me c.in_ok-sn.sn) (sym c.deref.ensures.value) ∙ sym c.if-is_relevant.ensures in
    sym (due_found c.args.self.now c.args.reader c.requires.matched c.requires.reliable c.max.result c.in_ok-sn.sn from is.0 (omega arith) (ap (λ (p : ProxyState). wants p c.in_ok-sn.sn) (sym proxy) ∙ is.2)
    (λ n a b. ap (λ (p : ProxyState). wants p n) (sym proxy) ∙ is.3 n a b) ∙ ap (λ b. Some (cond b (Data c.in_ok-sn.sn) (Gap c.in_ok-sn.sn))) rel)
