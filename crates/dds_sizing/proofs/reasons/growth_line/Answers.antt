use Rattle.std.proofs.Common.{◌≡◌, ◌∙◌, ◌++◌, ℕ, List, IfOk, ap, codes, string_bytes, subst}
use Rattle.dds_lists.specs.Lists.{Lists}
use Rattle.dds_sizing.specs.Reasons.{deeds, unshown_line}
use Rattle.dds_sizing.proofs.reasons.growth_line.Goals as goal

pub returns : goal.returns
returns c =
    let done : string_bytes c.in_ok-deeds.deeds ≡ deeds c.args.plan.now c.args.firings.now c.args.writes.now =
    c.in_ok-deeds.ensures ∙ ap (λ (d : Lists). deeds d c.args.firings.now c.args.writes.now) c.lists.ensures.value in
    let why : c.as_str.result.now ≡ codes "by " ++ (deeds c.args.plan.now c.args.firings.now c.args.writes.now ++ codes " again and again") =
    c.as_str.ensures.value ∙ (c.in_ok-why.ensures.ok ∙ ap (λ (text : List ℕ). codes "by " ++ (text ++ codes " again and again")) done) in
    subst (λ (text : List ℕ). IfOk c.unshown_line.result (λ line. string_bytes line ≡ unshown_line c.args.plan.now c.args.size.now text)) why c.unshown_line.ensures
