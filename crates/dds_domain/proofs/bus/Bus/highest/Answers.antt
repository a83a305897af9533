use Rattle.std.proofs.Common.{◌+◌, ◌-◌, ◌*◌, nat_lt, is_some, Some, None, take, drop, sym, ap, subst, ◌∙◌, arith}
use Rattle.dds_domain.specs.Bus.{IsLastPlace, last_taken}
use Rattle.dds_domain.proofs.Blocks.{last_in_blocks, no_last_in_blocks, some_last_in_block}
use Rattle.dds_domain.proofs.Counted.{tells_packets, last_taken_is, none_taken_is}
use Rattle.dds_domain.proofs.bus.Bus.highest.Goals as goal

-- no block has a packet
pub returns-in_err-block : goal.returns-in_err-block
returns-in_err-block c =
    let held = c.self.inside.held.items in
    let taken = c.self.inside.taken.items in
    let tells = tells_packets held taken c.self.inside.count c.self.invariant in
    let none : IsLastPlace (nat_lt 0) taken None = subst (λ ns. IsLastPlace (nat_lt 0) ns None) c.deref.ensures.value c.in_err-block.ensures in
    c.from_residual.ensures ∙ sym (none_taken_is held c.self.invariant.whole (no_last_in_blocks is_some (nat_lt 0) held taken tells none)) ∙ ap last_taken c.self.view_is

-- a block that counts a packet has one
pub returns-in_err-at : goal.returns-in_err-at
returns-in_err-at c =
    let held = c.self.inside.held.items in
    let b = c.in_ok-block.block in
    let block : IsLastPlace (nat_lt 0) c.self.inside.taken.items (Some b) = subst (λ ns. IsLastPlace (nat_lt 0) ns (Some b)) c.deref.ensures.value c.in_ok-block.ensures in
    let none : IsLastPlace is_some (take (b * 64 + 64 - b * 64) (drop (b * 64) held)) None = subst (λ ss. IsLastPlace is_some (take (b * 64 + 64 - b * 64) (drop (b * 64) ss)) None) c.deref-2.ensures.value c.in_err-at.ensures in
    absurd (some_last_in_block is_some (nat_lt 0) held c.self.inside.taken.items (tells_packets held c.self.inside.taken.items c.self.inside.count c.self.invariant) b (b * 64 + 64 - b * 64) (omega arith) block none)

-- the last packet of the last block that counts one
pub returns : goal.returns
returns c =
    let held = c.self.inside.held.items in
    let tells = tells_packets held c.self.inside.taken.items c.self.inside.count c.self.invariant in
    let b = c.in_ok-block.block in
    let n = b * 64 + 64 - b * 64 in
    let block : IsLastPlace (nat_lt 0) c.self.inside.taken.items (Some b) = subst (λ ns. IsLastPlace (nat_lt 0) ns (Some b)) c.deref.ensures.value c.in_ok-block.ensures in
    let place : IsLastPlace is_some (take n (drop (b * 64) held)) (Some c.in_ok-at.at) = subst (λ ss. IsLastPlace is_some (take n (drop (b * 64) ss)) (Some c.in_ok-at.at)) c.deref-2.ensures.value c.in_ok-at.ensures in
    sym (last_taken_is held (b * 64 + c.in_ok-at.at) c.self.invariant.whole (last_in_blocks is_some (nat_lt 0) held c.self.inside.taken.items tells b c.in_ok-at.at n (omega arith) block place)) ∙ ap last_taken c.self.view_is
