use Rattle.std.proofs.Common.{◌∙◌, false}
use Rattle.dds_reader.proofs.NoteLaws.{owes_at, owes_nowhere, placed}
use Rattle.dds_reader.proofs.notes.owes_to.Goals as goal

pub returns-in-Some : goal.returns-in-Some
returns-in-Some c = owes_at c.args.writer c.args.proxies.now c.in-Some.at c.index-proxies-at.result (placed c.number.result c.args.writer c.args.proxies.now c.place_of.result c.number.ensures c.place_of.ensures ∙ c.in-Some.is)

pub returns-in-None : goal.returns-in-None
returns-in-None c = owes_nowhere c.args.writer c.args.proxies.now (record { writer = 0; heard = 0; owes = false }) (placed c.number.result c.args.writer c.args.proxies.now c.place_of.result c.number.ensures c.place_of.ensures ∙ c.in-None.is)
