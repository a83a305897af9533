use Rattle.std.proofs.Common.{refl}
use Rattle.dds_json.proofs.Ends.{proposal_told}
use Rattle.dds_json.proofs.proposing.restate_in_json.Goals as goal

pub returns-in-Ok-clause-gives : goal.returns-in-Ok-clause-gives
returns-in-Ok-clause-gives c = λ end ends is.
    proposal_told c.args.answer (record { text = c.in-Ok.text; is_yes = c.args.answer.is_yes; note = c.args.answer.note }) end ends is c.in-Ok.ensures refl
