use Rattle.dds_findings.specs.Findings.{matters, of_number}
use Rattle.dds_findings.proofs.Listed.{added_first, added_next}
use Rattle.dds_findings.proofs.linting.push_numbers.Goals as goal

pub loop-number-init : goal.loop-number-init
loop-number-init c = added_first (matters c.args.found.now.items) (of_number c.args.nos.now)

pub loop-number-preserved : goal.loop-number-preserved
loop-number-preserved c =
    added_next (matters c.args.found.now.items) (matters c.loop-number.found.items) (matters c.push_number.new.found.items) (of_number c.args.nos.now)
    c.loop-number.number c.loop-number.invariant c.in_ok-push_number.ensures
