use Rattle.std.proofs.Common.{◌≡◌, [], MatchOption, subst}
use Rattle.dds_qos.specs.Taking.{IsLeastOfWriter}
use Rattle.dds_reader.specs.Reader.{ReaderState, available}
use Rattle.test_forms.proofs.reader.PlainReader.take.Goals as goal

pub returns-clause-answer : goal.returns-clause-answer
returns-clause-answer c =
    subst (λ (r : ReaderState). MatchOption c.take.result (available r c.args.key ≡ []) (λ x. IsLeastOfWriter x (available r c.args.key))) c.self.view_is c.take.ensures.answer
