use Rattle.dds_weights.specs.Views.{certificate_view}
use Rattle.dds_findings.specs.Findings.{matters, of_kind}
use Rattle.dds_findings.proofs.Listed.{added_first, added_next}
use Rattle.dds_findings.proofs.linting.push_kinds.Goals as goal

pub loop-kind-init : goal.loop-kind-init
loop-kind-init c = added_first (matters c.args.found.now.items) (of_kind c.args.judged.now.plan.now (certificate_view c.args.judged.now.certificate.now) c.args.notes.now)

pub loop-kind-preserved : goal.loop-kind-preserved
loop-kind-preserved c =
    added_next (matters c.args.found.now.items) (matters c.loop-kind.found.items) (matters c.push_kind.new.found.items) (of_kind c.args.judged.now.plan.now (certificate_view c.args.judged.now.certificate.now) c.args.notes.now)
    c.loop-kind.kind c.loop-kind.invariant c.in_ok-push_kind.ensures
