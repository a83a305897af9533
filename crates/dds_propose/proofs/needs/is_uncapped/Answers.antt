use Rattle.std.proofs.Common.{◌≡◌, ◌==◌, ℕ, List, length, false, is_none, sym, ap, ◌∙◌}
use Rattle.dds_match.specs.Network.{capped}
use Rattle.dds_match.specs.Plan.{network_of}
use Rattle.dds_propose.proofs.Seeing.{none_match}
use Rattle.dds_propose.proofs.needs.is_uncapped.Goals as goal

pub returns-in-Some : goal.returns-in-Some
returns-in-Some c =
    let net = network_of c.args.plan.now in
    let some : is_none (capped net c.args.reader c.args.key) ≡ false = ap is_none (sym c.capped.ensures ∙ c.in-Some.is) in
    let listed = c.is_empty.ensures ∙ (ap (λ (ws : List ℕ). length ws == 0) c.writers_of.ensures ∙ none_match net c.args.reader) in
    rw some listed
