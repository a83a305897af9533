use Rattle.std.proofs.Common.{◌≡◌, ◌∙◌, string_bytes, ap, List}
use Rattle.dds_base.specs.Sums as sums
use Rattle.dds_qos.specs.declared.limits.ReaderLimits.{ReaderLimits}
use Rattle.dds_lists.specs.Lists.{Lists}
use Rattle.dds_match.specs.Plan.{network_of}
use Rattle.dds_text.specs.Names.{reader_name}
use Rattle.dds_text.specs.Texts.{each_below}
use Rattle.dds_weights.specs.declared.certificate.Bound.{Bound}
use Rattle.dds_weights.specs.declared.certificate.Total.{Total}
use Rattle.dds_check.specs.Limits.{reached_bound}
use Rattle.dds_check.specs.Tables.{total_of}
use Rattle.dds_explain.specs.Limits.{reached_bound_line, total_line}
use Rattle.dds_explain.specs.Pieces.{limit_text}
use Rattle.dds_explain.proofs.limits.samples_over_lines.Goals as goal

pub returns : goal.returns
returns c =
    let limit : string_bytes c.in_ok-limit.limit ≡ limit_text ((network_of c.args.plan.now).reader_limits c.args.reader).max_samples =
    c.in_ok-limit.ensures ∙ ap (λ (x : ReaderLimits). limit_text x.max_samples) c.reader_limits.ensures in
    let total : string_bytes c.in_ok-total.total ≡ total_line (total_of c.args.certificate.now.totals.items c.args.reader) =
    c.in_ok-total.ensures ∙ (ap total_line c.find_total.ensures ∙ ap (λ (ts : List Total). total_line (total_of ts c.args.reader)) c.as_slice.ensures.value) in
    let entries : c.new-bounds.result ≡ c.args.certificate.now.bounds.items = c.new-bounds.ensures ∙ c.deref.ensures.value in
    let lines : string_bytes c.in_ok-lines.lines ≡ each_below 64 (reached_bound_line c.args.plan.now c.args.certificate.now.bounds.items c.args.reader) =
    c.in_ok-lines.ensures ∙ ap (λ (bs : List Bound). each_below 64 (reached_bound_line c.args.plan.now bs c.args.reader)) entries in
    let sum : c.sum_of_bounds-sum.result ≡ sums.total 64 (reached_bound (network_of c.args.plan.now) c.args.certificate.now.bounds.items c.args.reader) =
    c.sum_of_bounds-sum.ensures ∙ ap (λ (bs : List Bound). sums.total 64 (reached_bound (network_of c.args.plan.now) bs c.args.reader)) entries in
    let name : c.reader_name-name.result.now ≡ reader_name c.args.plan.now c.args.reader = c.reader_name-name.ensures ∙ ap (λ (d : Lists). reader_name d c.args.reader) c.lists.ensures.value in
    rw (name, limit, total, lines, sum) at c.format.ensures.ok
