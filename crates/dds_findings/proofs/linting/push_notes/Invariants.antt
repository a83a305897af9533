use Rattle.std.proofs.Common.{◌≡◌, ◌++◌, map, take}
use Rattle.dds_weights.specs.Views.{certificate_view}
use Rattle.dds_findings.specs.Findings.{matters, note_matter}
use Rattle.dds_findings.proofs.linting.push_notes.Given as goal

-- those of the notes so far are added
abbrev pub invariant-loop-one : goal.invariant-loop-one
invariant-loop-one l =
    matters l.found.items ≡ matters l.initial.found.items ++ map (note_matter l.judged.plan.now (certificate_view l.judged.certificate.now)) (take l.one-index l.notes)
