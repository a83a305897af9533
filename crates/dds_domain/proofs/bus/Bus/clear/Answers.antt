use Rattle.std.proofs.Common.{◌≡◌, true, is_some, sym, ap, ◌∙◌}
use Rattle.dds_domain.specs.Bus.{at_place}
use Rattle.dds_domain.proofs.Counted.{counted_cleared, block_count_some, all_count_some}
use Rattle.dds_domain.proofs.bus.Bus.clear.Goals as goal

-- the place was taken, so its block and the bus counted its packet
pub overflow_sub-index_mut : goal.overflow_sub-index_mut
overflow_sub-index_mut c =
    let there : is_some (at_place c.self.inside.held.items c.args.place) ≡ true = ap (λ ss. is_some (at_place ss c.args.place)) c.self.view_is ∙ sym (ap is_some c.at.ensures) ∙ sym c.is_some.ensures ∙ c.if-is_some.true in
    block_count_some c.self.inside.held.items c.self.inside.taken.items c.self.inside.count c.args.place c.index_mut-then-is_some.result.now c.self.invariant there c.index_mut-then-is_some.ensures.value

pub overflow_sub-self : goal.overflow_sub-self
overflow_sub-self c =
    let there : is_some (at_place c.self.inside.held.items c.args.place) ≡ true = ap (λ ss. is_some (at_place ss c.args.place)) c.self.view_is ∙ sym (ap is_some c.at.ensures) ∙ sym c.is_some.ensures ∙ c.if-is_some.true in
    all_count_some c.self.inside.held.items c.self.inside.taken.items c.self.inside.count c.args.place c.self.invariant there

pub invariant_of-self : goal.invariant_of-self
invariant_of-self c =
    let there : is_some (at_place c.self.inside.held.items c.args.place) ≡ true = ap (λ ss. is_some (at_place ss c.args.place)) c.self.view_is ∙ sym (ap is_some c.at.ensures) ∙ sym c.is_some.ensures ∙ c.if-is_some.true in
    counted_cleared c.self.inside.held.items c.self.inside.taken.items c.self.inside.count c.args.place c.index_mut-then-is_some.result.now c.self.invariant there c.index_mut-then-is_some.ensures.value
