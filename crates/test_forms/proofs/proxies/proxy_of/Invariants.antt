use Rattle.std.proofs.Common.{◌≡◌, true, drop}
use Rattle.dds_writer.specs.Proxies.{is_matched, proxy_of}
use Rattle.test_forms.proofs.proxies.proxy_of.Given as goal

abbrev pub invariant-loop-proxy : goal.invariant-loop-proxy
invariant-loop-proxy l = record {
  rest : proxy_of l.reader (drop l.proxy-index l.proxies) ≡ proxy_of l.reader l.proxies;
  listed : is_matched l.reader (drop l.proxy-index l.proxies) ≡ true;
}
