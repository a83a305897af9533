use Rattle.std.proofs.Common.{subst}
use Rattle.std.specs.Prelude.{IfOk, ◌∷◌, []}
use Rattle.dds_domain.specs.Standing.{GoesOn, IsRunning, PartsState}
use Rattle.dds_domain.proofs.Standing.{goes_result, has_world, running_result}
use Rattle.dds_domain.proofs.simulator.Simulator.step.Goals as goal

pub step-requires : goal.step-requires
step-requires c = has_world _ c.self.invariant

pub invariant_of-self : goal.invariant_of-self
invariant_of-self c = running_result _ _ _ _ c.self.invariant c.step.ensures.plan c.step.ensures.steps c.step.ensures.notes c.step.ensures.err

pub returns-clause-stood : goal.returns-clause-stood
returns-clause-stood c = subst IsRunning c.self.view_is c.self.invariant

pub returns-clause-steps : goal.returns-clause-steps
returns-clause-steps c = subst (λ (d : PartsState). IfOk c.step.result (λ reply. GoesOn d ((c.args.event, reply) ∷ []) c.step.new.self)) c.self.view_is (goes_result _ _ _ _ c.self.invariant c.step.ensures.plan c.step.ensures.steps c.step.ensures.notes)
