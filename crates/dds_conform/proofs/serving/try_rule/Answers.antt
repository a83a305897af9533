use Rattle.std.proofs.Common.{refl, sym, ap, ◌∙◌}
use Rattle.dds_lists.specs.Lists.{Rule}
use Rattle.dds_match.specs.Plan.{network_of}
use Rattle.dds_conform.proofs.Givers.{gives_nothing, gives_something}
use Rattle.dds_conform.proofs.serving.try_rule.Goals as goal

pub returns-then-not-gives : goal.returns-then-not-gives
returns-then-not-gives c = (
  refl,
  λ g. absurd (gives_nothing (network_of c.args.plan.now) c.args.writer c.args.key c.args.rule c.gives.result
      (record { portions = c.deref.result.now; of = c.deref.ensures.value ∙ ap (λ (x : Rule). x.writes) c.rule.ensures; test = c.gives.ensures }) c.if-not-gives.true g),
)

pub returns-in-Ok : goal.returns-in-Ok
returns-in-Ok c = record {
  there = c.requires.there;
  gives = gives_something (network_of c.args.plan.now) c.args.writer c.args.key c.args.rule c.gives.result
      (record { portions = c.deref.result.now; of = c.deref.ensures.value ∙ ap (λ (x : Rule). x.writes) c.rule.ensures; test = c.gives.ensures }) c.if-not-gives.false;
  fires = sym c.in-Ok.ensures.answer;
  spare = c.in-Ok.ensures.spare;
  permits = c.in-Ok.ensures.permits;
  plan = c.in-Ok.ensures.plan;
}
