use Rattle.std.proofs.Common.{true, false, Some, position, is_some, sym, ap, ◌∙◌}
use Rattle.std.proofs.lemmas.Option.{none-some, same_Some}
use Rattle.dds_runs.specs.Steps.{Deliver, Lose}
use Rattle.dds_domain.specs.Bus.{last_taken}
use Rattle.dds_domain.specs.Schedule.{lowest, highest, by_fate}
use Rattle.dds_domain.proofs.Buses.{lowest_is, highest_is}
use Rattle.dds_domain.proofs.parts.Parts.by_fate.Goals as goal

-- a bus with a packet has a lowest and a highest taken place
pub returns-in_err-lowest : goal.returns-in_err-lowest
returns-in_err-lowest c v noted h some =
    absurd (none-some (lowest v) (c.in_err-lowest.ensures ∙ ap (λ d. position is_some d.bus) c.self.view_is ∙ lowest_is v c.args.self.now.bus h.world.bus some))

pub returns-in_err-highest-in-Last : goal.returns-in_err-highest-in-Last
returns-in_err-highest-in-Last c v noted h some =
    absurd (none-some (highest v) (c.in_err-highest-in-Last.ensures ∙ ap (λ d. last_taken d.bus) c.self.view_is ∙ highest_is v c.args.self.now.bus h.world.bus some))

-- each fate's place is the world's
pub returns-in-Pass : goal.returns-in-Pass
returns-in-Pass c v noted h some =
    let place = same_Some c.in_ok-lowest.lowest (lowest v) (c.in_ok-lowest.ensures ∙ ap (λ d. position is_some d.bus) c.self.view_is ∙ lowest_is v c.args.self.now.bus h.world.bus some) in
    ap (λ n. Some (Deliver n false)) place ∙ ap (λ f. Some (by_fate v f)) (sym c.in-Pass.is)

pub returns-in-Keep : goal.returns-in-Keep
returns-in-Keep c v noted h some =
    let place = same_Some c.in_ok-lowest.lowest (lowest v) (c.in_ok-lowest.ensures ∙ ap (λ d. position is_some d.bus) c.self.view_is ∙ lowest_is v c.args.self.now.bus h.world.bus some) in
    ap (λ n. Some (Deliver n true)) place ∙ ap (λ f. Some (by_fate v f)) (sym c.in-Keep.is)

pub returns-in_ok-highest-in-Last : goal.returns-in_ok-highest-in-Last
returns-in_ok-highest-in-Last c v noted h some =
    let place = same_Some c.in_ok-highest-in-Last.field-0 (highest v) (c.in_ok-highest-in-Last.ensures ∙ ap (λ d. last_taken d.bus) c.self.view_is ∙ highest_is v c.args.self.now.bus h.world.bus some) in
    ap (λ n. Some (Deliver n false)) place ∙ ap (λ f. Some (by_fate v f)) (sym c.in-Last.is)

pub returns-in-Lose : goal.returns-in-Lose
returns-in-Lose c v noted h some =
    let place = same_Some c.in_ok-lowest.lowest (lowest v) (c.in_ok-lowest.ensures ∙ ap (λ d. position is_some d.bus) c.self.view_is ∙ lowest_is v c.args.self.now.bus h.world.bus some) in
    ap (λ n. Some (Lose n)) place ∙ ap (λ f. Some (by_fate v f)) (sym c.in-Lose.is)
