use Rattle.dds_weights.specs.Views.{certificate_view}
use Rattle.dds_notes.specs.Notes.{note_line}
use Rattle.dds_notes.proofs.notes.lines_of.Goals as goal

pub returns : goal.returns
returns c = c.text_of_each.ensures (note_line c.args.plan.now (certificate_view c.args.certificate.now)) (λ x r post. post)
