use Rattle.std.proofs.Common.{rules, ◌≡◌, ◌∙◌, ap, codes, filter, map, take}
use Rattle.std.proofs.lemmas.Result.{IfOk-weaker}
use Rattle.dds_qos.specs.Compatibility.{contains, name_of, policies}
use Rattle.dds_show.proofs.Names.{one_more_name, same_joined}
use Rattle.dds_show.proofs.reasons.policies_text.Goals as goal

pub loop-policy-preserved : goal.loop-policy-preserved
loop-policy-preserved c =
    one_more_name name_of (contains c.args.set) policies c.loop-policy.policy-index _ (map (λ s. s.now) c.loop-policy.names.items) (map (λ s. s.now) c.push_name.new.names.items)
    c.loop-policy-test.true (search rules) c.loop-policy.invariant c.in_ok-push_name.ensures

pub returns : goal.returns
returns c =
    let all : take c.loop-policy.policy-index policies ≡ policies = search rules in
    let names : map (λ s. s.now) c.loop-policy.names.items ≡ map name_of (filter (contains c.args.set) policies) =
    c.loop-policy.invariant ∙ ap (λ ps. map name_of (filter (contains c.args.set) ps)) all in
    IfOk-weaker c.join.result _ _ (λ text is. is ∙ same_joined (λ s. s.now) name_of (codes ",") c.deref.result.now (filter (contains c.args.set) policies) (ap (map (λ s. s.now)) c.deref.ensures.value ∙ names)) c.join.ensures.ok
