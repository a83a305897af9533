use Rattle.std.proofs.Common.{◌≡◌, ◌++◌, sym, ap, ◌∙◌, arith}
use Rattle.dds_match.specs.Plan.{network_of}
use Rattle.dds_propose.specs.declared.targets.Target.TheVariants.{Instance}
use Rattle.dds_propose.specs.Targets.{is_limited, key_target}
use Rattle.dds_propose.proofs.Entries.{and_next, one_taken, none_taken}
use Rattle.dds_propose.proofs.KeyTargets.{all_keys}
use Rattle.dds_propose.proofs.targets.add_instances.Goals as goal
use Rattle.dds_propose.proofs.targets.add_instances.Goals.{then-is_limited+in_ok-push, else-is_limited}

pub loop-k-preserved : goal.loop-k-preserved
loop-k-preserved c =
    let net = network_of c.args.plan.now in
    let r = c.args.reader in
    let k = c.loop-k.k in
    let list = c.loop-k.targets.items in
    let known : is_limited net r k ≡ c.is_limited.result = ap (is_limited net r) (sym c.new-key.ensures) ∙ sym c.is_limited.ensures in
    and_next (key_target net r) k _ list _ c.loop-k.invariant
    (elim c.if-is_limited.branch [
      | then-is_limited+in_ok-push w ↦ rw w.targets-is (one_taken (is_limited net r k) (Instance r k) _ list _ (known ∙ w.if-is_limited.true) (ap (Instance r) c.new-key.ensures) w.in_ok-push.ensures.items)
      | else-is_limited w ↦ rw w.targets-is (none_taken (is_limited net r k) (Instance r k) list (known ∙ w.if-is_limited.false))
    ])

pub returns : goal.returns
returns c =
    let whole : c.loop-k.k ≡ 64 = omega arith in
    c.loop-k.invariant ∙ ap (λ ts. c.args.targets.now.items ++ ts) (all_keys (network_of c.args.plan.now) c.args.reader c.loop-k.k whole)
