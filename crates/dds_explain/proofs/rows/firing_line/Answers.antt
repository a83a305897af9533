use Rattle.std.proofs.Common.{◌≡◌, ◌∙◌, ap, List, ℕ}
use Rattle.dds_base.specs.declared.portion.Portion.{Portion}
use Rattle.dds_match.specs.Network.{weighed}
use Rattle.dds_weights.specs.Lists.{Row}
use Rattle.dds_weights.specs.Views.{row_view}
use Rattle.dds_runs.specs.Accepted.{row_of}
use Rattle.dds_explain.proofs.rows.firing_line.Goals as goal

pub returns : goal.returns
returns c =
    let given : c.permits_weighed-given.result ≡ weighed c.args.rule.now.writes.items (row_of (row_view c.args.row.now)).permits =
    c.permits_weighed-given.ensures.value ∙ (ap (λ (r : Row). weighed c.deref.result.now (row_of r).permits) c.new-weights.ensures ∙ ap (λ (xs : List (Portion ℕ)). weighed xs (row_of (row_view c.args.row.now)).permits) c.deref.ensures.value) in
    let needed : c.takes_weighed-needed.result ≡ weighed c.args.rule.now.takes.items (row_of (row_view c.args.row.now)).takes =
    c.takes_weighed-needed.ensures.value ∙ (ap (λ (r : Row). weighed c.deref-2.result.now (row_of r).takes) c.new-weights.ensures ∙ ap (λ (xs : List (Portion ℕ)). weighed xs (row_of (row_view c.args.row.now)).takes) c.deref-2.ensures.value) in
    rw (c.as_str-row.ensures.value, given, needed) at c.format.ensures.ok
