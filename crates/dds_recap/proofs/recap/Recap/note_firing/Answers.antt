use Rattle.std.proofs.Common.{◌<◌, ◌∙◌, List, ℕ, ap, arith, length, subst, sym}
use Rattle.dds_base.specs.declared.portion.Portion.{Portion}
use Rattle.dds_lists.specs.Lists.{Lists, Rule}
use Rattle.dds_match.specs.Network.{named}
use Rattle.dds_match.specs.Plan.{network_of}
use Rattle.dds_runs.specs.Steps.{Fire, Reply}
use Rattle.dds_recap.specs.Recap.{Notes}
use Rattle.dds_recap.specs.Tally.{IsMoreBy}
use Rattle.dds_recap.specs.declared.recap.Recap.{Recap}
use Rattle.dds_recap.proofs.Following.{fire_noted, on_ok_both}
use Rattle.dds_recap.proofs.recap.Recap.note_firing.Goals as goal

pub returns-in-Fired : goal.returns-in-Fired
returns-in-Fired c =
    let net = network_of c.args.plan.now in
    let old = c.args.self.now in
    let new = c.spend.new.self in
    let rules = c.rules.ensures ∙ ap (λ (d : Lists). length d.rules.entries) c.lists.ensures.value in
    let there : c.args.rule < net.rules = omega (arith, rules, c.number.ensures, c.if-number-rules.true) in
    on_ok_both c.spend.result _ _ (Notes net (Fire c.args.rule) c.args.reply.now old new)
    (λ spent same.
    subst (λ (x : Recap). Notes net (Fire c.args.rule) c.args.reply.now old x) (sym same)
    (subst (λ (reply : Reply). Notes net (Fire c.args.rule) reply old (record old { spent = new.spent })) (sym c.in-Fired.is)
    (fire_noted net c.args.rule old new.spent there
    (subst (λ (takes : List (Portion ℕ)). IsMoreBy (named takes) old.spent new.spent) (c.deref.ensures.value ∙ ap (λ (u : Rule). u.takes) c.rule.ensures) spent))))
    c.spend.ensures.spent c.spend.ensures.same
