use Rattle.std.proofs.Common.{rules, ◌≡◌, ℕ, None, replicate}
use Rattle.dds_runs.specs.Steps.{places}
use Rattle.dds_domain.proofs.Counted.{counted_empty}
use Rattle.dds_domain.proofs.bus.Bus.new.Goals as goal

-- each place is free, and each count is 0
pub invariant_of-result : goal.invariant_of-result
invariant_of-result c =
    let free : c.in_ok-held.held.items ≡ replicate places None = c.in_ok-held.ensures.items_if_clones_equal (λ y same. search rules) in
    let none : c.in_ok-taken.taken.items ≡ replicate {A = ℕ} 64 0 = search rules in
    counted_empty c.in_ok-held.held.items c.in_ok-taken.taken.items free none

pub returns : goal.returns
returns c = c.in_ok-held.ensures.items_if_clones_equal (λ y same. search rules)
