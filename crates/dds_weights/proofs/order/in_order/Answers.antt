use Rattle.std.proofs.Common.{rules}
use Rattle.std.proofs.lemmas.List.Sorted.{IsNonDecreasingBy-from_sort_by_key, answers_always}
use Rattle.dds_weights.specs.Places.{weight_number}
use Rattle.dds_weights.proofs.OrderLaws.{sorted_is, stable_of}
use Rattle.dds_weights.proofs.order.in_order.Goals as goal

pub returns : goal.returns
returns g c =
    let number = weight_number g.E.Endpoint.number_of in
    let stable = c.in_ok-sort_by_key.ensures.stable number (answers_always _ _ _ (λ f a r h called. search rules)) in
    sorted_is number c.args.weights.items c.sort_by_key.new.self.items
    (IsNonDecreasingBy-from_sort_by_key number _ c.in_ok-sort_by_key.ensures.sorted (λ a r q k. search rules))
    (stable_of number c.args.weights.items c.sort_by_key.new.self.items stable)
