use Rattle.std.proofs.Common.{◌≡◌, ◌∙◌, sym, ap, arith}
use Rattle.dds_match.specs.Network.{reach}
use Rattle.dds_match.specs.Plan.{network_of}
use Rattle.dds_propose.specs.declared.targets.Target.TheVariants.{Instance}
use Rattle.dds_search.specs.Sizes.{key_target}
use Rattle.dds_search.proofs.Growing.{all_keys, and_next, none_taken, one_taken}
use Rattle.dds_search.proofs.targets.key_targets.Goals as goal
use Rattle.dds_search.proofs.targets.key_targets.Goals.{then-reaches+in_ok-push, else-reaches}

pub loop-k-preserved : goal.loop-k-preserved
loop-k-preserved c =
    let net = network_of c.args.plan.now in
    let r = c.args.reader in
    let k = c.loop-k.k in
    let list = c.loop-k.targets.items in
    let known : reach net r k ≡ c.reaches.result = ap (reach net r) (sym c.new-key.ensures) ∙ sym c.reaches.ensures in
    and_next (key_target net r) k list _ c.loop-k.invariant
    (elim c.if-reaches.branch [
      | then-reaches+in_ok-push w ↦ rw w.targets-is (one_taken (reach net r k) (Instance r k) _ list _ (known ∙ w.if-reaches.true) (ap (Instance r) c.new-key.ensures) w.in_ok-push.ensures.items)
      | else-reaches w ↦ rw w.targets-is (none_taken (reach net r k) (Instance r k) list (known ∙ w.if-reaches.false))
    ])

pub returns : goal.returns
returns c =
    let whole : c.loop-k.k ≡ 64 = omega arith in
    c.loop-k.invariant ∙ all_keys (network_of c.args.plan.now) c.args.reader c.loop-k.k whole
