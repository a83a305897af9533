use Rattle.std.proofs.Common.{◌∙◌, sym, false}
use Rattle.dds_reader.proofs.NoteLaws.{heard_at, heard_nowhere}
use Rattle.test_forms.proofs.notes.heard_from.Goals as goal

pub returns-in-Some-clause-heard : goal.returns-in-Some-clause-heard
returns-in-Some-clause-heard c = heard_at c.args.writer c.args.proxies.now c.in-Some.at c.index-proxies-at.result (sym c.place_of.ensures ∙ c.in-Some.is)

pub returns-in-None-clause-heard : goal.returns-in-None-clause-heard
returns-in-None-clause-heard c = heard_nowhere c.args.writer c.args.proxies.now (record { writer = 0; heard = 0; owes = false }) (sym c.place_of.ensures ∙ c.in-None.is)
