use Rattle.std.proofs.Common.{◌++◌}
use Rattle.std.specs.Prelude.{codes}
use Rattle.dds_answers.proofs.Advising.{appends_both}
use Rattle.dds_answers.proofs.advice.say_unopened.Goals as goal

pub returns-in-Some : goal.returns-in-Some
returns-in-Some g c = λ whole.
    let second = c.say-in-Some-2.ensures.failed whole in
    let first = c.say-in-Some.ensures.failed second in
    let path = c.in-Some.path.now in
    rw c.in-Some.is (
    appends_both _ _ _ (codes "because ") (path ++ codes " can't be opened\n") (c.say.ensures.said first)
    (appends_both _ _ _ path (codes " can't be opened\n") (c.say-in-Some.ensures.said second) (c.say-in-Some-2.ensures.said whole))
    )
