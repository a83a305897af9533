use Rattle.std.proofs.Common.{arith, ◌++◌, [], ◌∷◌, map, length, append_assoc, sym, ap, ◌∙◌}
use Rattle.std.specs.Vec.Iter.{into_iter_items}
use Rattle.std.proofs.lemmas.List.{map-append}
use Rattle.dds_writer.specs.declared.proxies.Proxy.{Proxy}
use Rattle.dds_writer.specs.Proxies.{ProxyState, opening_proxy}
use Rattle.test_forms.proofs.proxies.open.Goals as goal

pub loop-proxy-preserved : goal.loop-proxy-preserved
loop-proxy-preserved c =
    let i = c.loop-proxy.invariant in
    let steps = c.in-Some.ensures.steps in
    let proxy : Proxy = c.in-Some.proxy in
    let counted = i.counted in
    let less = steps.1 in
    let shorter = ap length steps.0 in
    let room = i.room in record {
      can_next = tt;
      is_finite = tt;
      counted = omega arith;
      all = i.all ∙ ap (λ l. c.loop-proxy.yielded ++ l) steps.0 ∙ sym (append_assoc c.loop-proxy.yielded (proxy ∷ []) (into_iter_items c.next.new.self));
      room = omega (arith, c.push_reserved.ensures.len, c.push_reserved.ensures.capacity);
      made = c.push_reserved.ensures.items
          ∙ ap (λ l. l ++ c.new.result ∷ []) i.made
          ∙ ap (λ (p : ProxyState). map (opening_proxy c.args.written) c.loop-proxy.yielded ++ p ∷ []) c.new.ensures
          ∙ sym (map-append (opening_proxy c.args.written) c.loop-proxy.yielded (proxy ∷ []));
    }
