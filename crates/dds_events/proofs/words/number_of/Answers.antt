use Rattle.dds_events.proofs.WordLaws.{parsed_some}
use Rattle.dds_events.specs.Words.{IsPlain}
use Rattle.dds_events.proofs.words.number_of.Goals as goal

pub returns-clause-some : goal.returns-clause-some
returns-clause-some c =
    let plain : IsPlain c.args.text.now = c.is_plain.ensures.0 c.if-not-is_plain.false in
    parsed_some c.args.text.now c.parse.result c.ok.result plain c.parse.ensures.value.0 c.ok.ensures.value
