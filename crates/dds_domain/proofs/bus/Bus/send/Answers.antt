use Rattle.std.proofs.Common.{◌≡◌, Some, sym, ap, ◌∙◌, arith}
use Rattle.dds_domain.specs.Bus.{sent_to}
use Rattle.dds_domain.proofs.Counted.{counted_sent, free_there, block_count_le, all_count_le}
use Rattle.dds_domain.proofs.bus.Bus.send.Goals as goal

-- the place of the packet was free, so its block has room
pub overflow_add-index_mut : goal.overflow_add-index_mut
overflow_add-index_mut c =
    let to : sent_to c.self.inside.held.items ≡ Some c.in_ok-place.place = ap sent_to c.self.view_is ∙ sym c.in_ok-place.ensures in
    let there = free_there c.self.inside.held.items c.in_ok-place.place c.self.invariant.whole to in
    omega (arith, block_count_le c.self.inside.held.items c.self.inside.taken.items c.self.inside.count c.in_ok-place.place c.index_mut-2.result.now c.self.invariant there.0 c.index_mut-2.ensures.value)

pub overflow_add-self : goal.overflow_add-self
overflow_add-self c = omega (arith, all_count_le c.self.inside.held.items c.self.inside.taken.items c.self.inside.count c.self.invariant)

pub invariant_of-self : goal.invariant_of-self
invariant_of-self c =
    let to : sent_to c.self.inside.held.items ≡ Some c.in_ok-place.place = ap sent_to c.self.view_is ∙ sym c.in_ok-place.ensures in
    counted_sent c.self.inside.held.items c.self.inside.taken.items c.self.inside.count c.in_ok-place.place c.index_mut-2.result.now c.args.packet c.self.invariant to c.index_mut-2.ensures.value
