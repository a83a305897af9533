use Rattle.std.proofs.Common.{subst}
use Rattle.std.proofs.lemmas.Result.{MatchResult-weaker}
use Rattle.std.specs.Prelude.{◌≡◌, MatchResult}
use Rattle.dds_domain.specs.Standing.{GoesOn, IsRunning, PartsState, Runs, paired}
use Rattle.dds_domain.proofs.Standing.{goes_by, of_either}
use Rattle.dds_domain.proofs.simulator.Simulator.run.Goals as goal

pub run-requires : goal.run-requires
run-requires c = c.self.invariant

pub invariant_of-self : goal.invariant_of-self
invariant_of-self c = of_either (λ a. a.items) (λ e. e.1.items) c.run.result _ (λ rs h. (goes_by _ _ _ c.self.invariant h).1) c.run.ensures.runs

pub returns-clause-runs : goal.returns-clause-runs
returns-clause-runs c =
    subst (λ (d : PartsState). MatchResult c.run.result (λ replies. GoesOn d (paired c.args.events.now replies.items) c.run.new.self) (λ e. GoesOn d (paired c.args.events.now e.1.items) c.run.new.self)) c.self.view_is
    (MatchResult-weaker c.run.result c.run.ensures.runs (λ a h. (goes_by _ _ _ c.self.invariant h).0) (λ e h. (goes_by _ _ _ c.self.invariant h).0))

pub returns-clause-stood : goal.returns-clause-stood
returns-clause-stood c = subst IsRunning c.self.view_is c.self.invariant

pub returns-clause-each : goal.returns-clause-each
returns-clause-each c =
    subst (λ (d : PartsState). MatchResult c.run.result (λ replies. Runs d (paired c.args.events.now replies.items) c.run.new.self) (λ e. Runs d (paired c.args.events.now e.1.items) c.run.new.self)) c.self.view_is c.run.ensures.runs

pub returns-clause-plan : goal.returns-clause-plan
returns-clause-plan c =
    subst (λ (d : PartsState). c.run.new.self.plan ≡ d.plan) c.self.view_is (of_either (λ a. a.items) (λ e. e.1.items) c.run.result _ (λ rs h. (goes_by _ _ _ c.self.invariant h).2) c.run.ensures.runs)
