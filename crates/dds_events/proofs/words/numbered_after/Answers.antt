use Rattle.dds_events.proofs.WordLaws.{one_after, none_weaker}
use Rattle.dds_events.proofs.words.numbered_after.Goals as goal

pub returns-clause-none : goal.returns-clause-none
returns-clause-none c =
    none_weaker c.numbered_of.result _ _ (λ h m n within fits same. h m n within fits (one_after c.args.word.now _ c.args.text.now _ c.in_ok-after_word.ensures.some same)) c.numbered_of.ensures.none
