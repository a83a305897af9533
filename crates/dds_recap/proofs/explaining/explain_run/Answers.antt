use Rattle.std.proofs.Common.{◌≡◌, ℕ, List, IfOk, subst, string_bytes}
use Rattle.dds_recap.proofs.Journeys.{explained}
use Rattle.dds_recap.proofs.explaining.explain_run.Goals as goal

pub returns : goal.returns
returns c =
    subst (λ (lines : List ℕ). IfOk c.recap_text.result (λ text. string_bytes text ≡ lines))
    (explained c.args.plan.now c.args.journal.now c.args.ends.now c.in_ok-recap.recap c.in_ok-recap.ensures.follows c.in_ok-recap.ensures.of_key c.in_ok-recap.ensures.of_all) c.recap_text.ensures
