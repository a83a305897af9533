use Rattle.dds_events.proofs.WordLaws.{one_after, none_weaker}
use Rattle.dds_events.proofs.words.number_after.Goals as goal

pub returns-clause-none : goal.returns-clause-none
returns-clause-none c =
    none_weaker c.number_of.result _ _ (λ h n lt same. h n lt (one_after c.args.word.now _ c.args.text.now _ c.in_ok-after_word.ensures.some same)) c.number_of.ensures.none
