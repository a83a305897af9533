use Rattle.std.proofs.Common.{◌∙◌, sym, false}
use Rattle.dds_reader.proofs.NoteLaws.{owes_at, owes_nowhere}
use Rattle.test_forms.proofs.notes.owes_to.Goals as goal

pub returns-in-Some : goal.returns-in-Some
returns-in-Some c = owes_at c.args.writer c.args.proxies.now c.in-Some.at c.index-proxies-at.result (sym c.place_of.ensures ∙ c.in-Some.is)

pub returns-in-None : goal.returns-in-None
returns-in-None c = owes_nowhere c.args.writer c.args.proxies.now (record { writer = 0; heard = 0; owes = false }) (sym c.place_of.ensures ∙ c.in-None.is)
