use Rattle.std.proofs.Common.{◌∙◌, ◌+◌, ◌*◌, ap, slice_index}
use Rattle.std.specs.List.{sum_by}
use Rattle.dds_match.specs.Plan.{network_of}
use Rattle.dds_lint.specs.Firings.{capped, share}
use Rattle.dds_lint.proofs.firings.add.Goals as goal

pub returns-clause-added : goal.returns-clause-added
returns-clause-added c = λ r k there low.
    c.add_writes.ensures.added r k there low
    ∙ ap (λ x. capped (slice_index c.args.cells.now (r * 64 + k) + sum_by (share (network_of c.args.plan.now) r k) x.writes * c.args.times)) c.rule.ensures
