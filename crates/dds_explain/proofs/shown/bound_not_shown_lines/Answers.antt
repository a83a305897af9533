use Rattle.std.proofs.Common.{rules, ◌≡◌, IfOk, flat_map, string_bytes}
use Rattle.dds_weights.specs.Views.{certificate_view}
use Rattle.dds_explain.specs.Shown.{unshown_bound}
use Rattle.dds_explain.proofs.shown.bound_not_shown_lines.Goals as goal

pub returns : goal.returns
returns c =
    let lines = unshown_bound c.args.plan.now (certificate_view c.args.certificate.now) c.args.reader c.args.key in
    let said : IfOk c.text_of_each.result (λ text. string_bytes text ≡ flat_map lines c.as_slice.result.now) = c.text_of_each.ensures lines (λ x r post. search rules) in
    rw c.as_slice.ensures.value at said
