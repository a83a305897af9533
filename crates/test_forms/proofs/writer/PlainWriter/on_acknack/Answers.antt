use Rattle.std.proofs.Common.{◌∙◌, ap, map}
use Rattle.dds_writer.specs.Proxies.{after_acknack}
use Rattle.test_forms.specs.WriterView.{view_of}
use Rattle.dds_writer.proofs.ProxyLaws.{items_mapped}
use Rattle.dds_writer.proofs.KeptSteps.{kept_trimmed}
use Rattle.test_forms.proofs.writer.PlainWriter.on_acknack.Goals as goal

pub invariant_of-self : goal.invariant_of-self
invariant_of-self c =
    let f = after_acknack c.args.acknack.now.reader c.args.acknack.now.set c.self.inside.written in
    let proxies = items_mapped c.self.inside.proxies (after_acknack c.args.acknack.now.reader c.args.acknack.now.set c.self.inside.written) c.acknowledge.new.proxies (c.acknowledge.ensures ∙ ap (map (after_acknack c.args.acknack.now.reader c.args.acknack.now.set c.self.inside.written)) c.deref_mut.ensures.value) in
    let old = c.self.inside.proxies.items in
    let trimmed = kept_trimmed (view_of c.self.inside) (map (after_acknack c.args.acknack.now.reader c.args.acknack.now.set c.self.inside.written) c.self.inside.proxies.items) c.self.invariant.kept in
    record {
      counted = c.self.invariant.counted;
      kept = rw (c.trim.ensures, c.deref.ensures.value, proxies) (record { rising = trimmed.rising; own = λ x i. (let o = trimmed.own x i in record { writer = o.writer; from = o.from; upto = o.upto; awaited = o.awaited }); ended = trimmed.ended });
      held = c.self.invariant.held;
    }
