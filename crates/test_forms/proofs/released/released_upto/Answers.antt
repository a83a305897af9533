use Rattle.std.proofs.Common.{◌∙◌, sym}
use Rattle.test_forms.proofs.ReleasedLaws.{released_at, released_none}
use Rattle.test_forms.proofs.released.released_upto.Goals as goal

pub returns-in-Some : goal.returns-in-Some
returns-in-Some c =
    released_at c.args.writer c.args.writers.now c.in-Some.at c.index-writers-at.result (sym c.place_of.ensures ∙ c.in-Some.is)

pub returns-in-None : goal.returns-in-None
returns-in-None c = released_none c.args.writer c.args.writers.now (record { writer = 0; upto = 0 }) (sym c.place_of.ensures ∙ c.in-None.is)
