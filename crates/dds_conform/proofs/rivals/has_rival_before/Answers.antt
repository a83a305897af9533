use Rattle.std.proofs.Common.{sym, ◌∙◌, subst, true, ◌≡◌, arith}
use Rattle.dds_match.specs.Plan.{network_of}
use Rattle.dds_conform.specs.Rivals.{are_rivals}
use Rattle.dds_conform.proofs.Givers.{rivals_meet}
use Rattle.dds_conform.proofs.rivals.has_rival_before.Goals as goal

pub returns-then-are_rivals : goal.returns-then-are_rivals
returns-then-are_rivals c = λ none. absurd (rivals_meet (network_of c.args.plan.now) c.args.rule c.loop-other.other c.requires (omega arith)
    (subst (λ v. are_rivals (network_of c.args.plan.now) c.args.rule v ≡ true) c.new.ensures (sym c.are_rivals.ensures ∙ c.if-are_rivals.true)) none)
