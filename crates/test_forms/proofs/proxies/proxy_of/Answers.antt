use Rattle.std.proofs.Common.{◌∙◌, sym, ap, add-one}
use Rattle.std.proofs.lemmas.Bool.{both_ways}
use Rattle.dds_writer.specs.Proxies.{is_of, is_matched}
use Rattle.dds_writer.proofs.ProxyLaws.{proxy_here, proxy_later, matched_later, matched_nowhere}
use Rattle.test_forms.proofs.proxies.proxy_of.Goals as goal

pub returns-then-is_of : goal.returns-then-is_of
returns-then-is_of c =
    let here = ap (is_of c.args.reader) (sym c.proxy-item.is) ∙ sym c.is_of.ensures ∙ c.if-is_of.true in
    c.proxy-item.is ∙ proxy_here c.args.reader c.args.proxies.now c.loop-proxy.proxy-index c.proxy-item.result c.loop-proxy-test.true here ∙ c.loop-proxy.invariant.rest

pub loop-proxy-preserved : goal.loop-proxy-preserved
loop-proxy-preserved c =
    let other = ap (is_of c.args.reader) (sym c.proxy-item.is) ∙ sym c.is_of.ensures ∙ c.if-is_of.false in
    rw add-one (record {
      rest = proxy_later c.args.reader c.args.proxies.now c.loop-proxy.proxy-index c.proxy-item.result c.loop-proxy-test.true other ∙ c.loop-proxy.invariant.rest;
      listed = matched_later c.args.reader c.args.proxies.now c.loop-proxy.proxy-index c.proxy-item.result c.loop-proxy-test.true other ∙ c.loop-proxy.invariant.listed;
    })

pub unreachable-requires : goal.unreachable-requires
unreachable-requires c =
    both_ways (is_matched c.args.reader _) (matched_nowhere c.args.reader c.args.proxies.now c.loop-proxy.proxy-index c.loop-proxy-test.false) c.loop-proxy.invariant.listed
