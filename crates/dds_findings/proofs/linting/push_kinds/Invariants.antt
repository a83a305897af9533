use Rattle.std.proofs.Common.{◌≡◌, ◌++◌}
use Rattle.dds_weights.specs.Views.{certificate_view}
use Rattle.dds_lint.specs.Every.{every_below}
use Rattle.dds_findings.specs.Findings.{matters, of_kind}
use Rattle.dds_findings.proofs.linting.push_kinds.Given as goal

-- those of the kinds so far are added
abbrev pub invariant-loop-kind : goal.invariant-loop-kind
invariant-loop-kind l =
    matters l.found.items ≡ matters l.initial.found.items ++ every_below l.kind (of_kind l.judged.plan.now (certificate_view l.judged.certificate.now) l.notes)
