use Rattle.std.proofs.Common.{◌≡◌, ◌∙◌, string_bytes, ap, List}
use Rattle.dds_qos.specs.declared.limits.ReaderLimits.{ReaderLimits}
use Rattle.dds_lists.specs.Lists.{Lists}
use Rattle.dds_match.specs.Plan.{network_of}
use Rattle.dds_text.specs.Names.{reader_name}
use Rattle.dds_text.specs.Texts.{each_below}
use Rattle.dds_weights.specs.declared.certificate.Bound.{Bound}
use Rattle.dds_explain.specs.Limits.{unbounded_key}
use Rattle.dds_explain.specs.Pieces.{limit_text}
use Rattle.dds_explain.proofs.limits.no_total_lines.Goals as goal

pub returns : goal.returns
returns c =
    let limit : string_bytes c.in_ok-limit.limit ≡ limit_text ((network_of c.args.plan.now).reader_limits c.args.reader).max_samples =
    c.in_ok-limit.ensures ∙ ap (λ (x : ReaderLimits). limit_text x.max_samples) c.reader_limits.ensures in
    let keys : string_bytes c.in_ok-keys.keys ≡ each_below 64 (unbounded_key c.args.plan.now c.args.certificate.now.bounds.items c.args.reader) =
    c.in_ok-keys.ensures ∙ ap (λ (bs : List Bound). each_below 64 (unbounded_key c.args.plan.now bs c.args.reader)) (c.new-bounds.ensures ∙ c.deref.ensures.value) in
    let name : c.reader_name-name.result.now ≡ reader_name c.args.plan.now c.args.reader = c.reader_name-name.ensures ∙ ap (λ (d : Lists). reader_name d c.args.reader) c.lists.ensures.value in
    rw (name, limit, keys) at c.format.ensures.ok
