use Rattle.std.proofs.Common.{◌≡◌, ◌+◌, ◌-◌, ◌*◌, nat_lt, is_none, position, Some, None, take, drop, sym, ap, ◌∙◌, arith}
use Rattle.dds_domain.proofs.Blocks.{first_in_blocks, nowhere_in_blocks, some_in_block}
use Rattle.dds_domain.proofs.Counted.{tells_free}
use Rattle.dds_domain.proofs.bus.Bus.free.Goals as goal

-- no block has a free place
pub returns-in_err-block : goal.returns-in_err-block
returns-in_err-block c =
    let tells = tells_free c.self.inside.held.items c.self.inside.taken.items c.self.inside.count c.self.invariant in
    let none : position (λ n. nat_lt n 64) c.self.inside.taken.items ≡ None = ap (position (λ n. nat_lt n 64)) (sym c.deref.ensures.value) ∙ sym c.in_err-block.ensures in
    c.from_residual.ensures ∙ sym (nowhere_in_blocks is_none (λ n. nat_lt n 64) c.self.inside.held.items c.self.inside.taken.items tells none) ∙ ap (position is_none) c.self.view_is

-- a block that counts fewer than 64 packets has a free place
pub returns-in_err-at : goal.returns-in_err-at
returns-in_err-at c =
    let tells = tells_free c.self.inside.held.items c.self.inside.taken.items c.self.inside.count c.self.invariant in
    let b = c.in_ok-block.block in
    let n = b * 64 + 64 - b * 64 in
    let block : position (λ n. nat_lt n 64) c.self.inside.taken.items ≡ Some b = ap (position (λ n. nat_lt n 64)) (sym c.deref.ensures.value) ∙ sym c.in_ok-block.ensures in
    let none : position is_none (take n (drop (b * 64) c.self.inside.held.items)) ≡ None = ap (λ ss. position is_none (take n (drop (b * 64) ss))) (sym c.deref-2.ensures.value) ∙ sym c.in_err-at.ensures in
    absurd (some_in_block is_none (λ n. nat_lt n 64) c.self.inside.held.items c.self.inside.taken.items tells b n (omega arith) block none)

-- the first free place of the first block that counts fewer
pub returns : goal.returns
returns c =
    let tells = tells_free c.self.inside.held.items c.self.inside.taken.items c.self.inside.count c.self.invariant in
    let b = c.in_ok-block.block in
    let n = b * 64 + 64 - b * 64 in
    let block : position (λ n. nat_lt n 64) c.self.inside.taken.items ≡ Some b = ap (position (λ n. nat_lt n 64)) (sym c.deref.ensures.value) ∙ sym c.in_ok-block.ensures in
    let place : position is_none (take n (drop (b * 64) c.self.inside.held.items)) ≡ Some c.in_ok-at.at = ap (λ ss. position is_none (take n (drop (b * 64) ss))) (sym c.deref-2.ensures.value) ∙ sym c.in_ok-at.ensures in
    sym (first_in_blocks is_none (λ n. nat_lt n 64) c.self.inside.held.items c.self.inside.taken.items tells b c.in_ok-at.at n (omega arith) block place) ∙ ap (position is_none) c.self.view_is
