use Rattle.std.proofs.Common.{◌≡◌, ◌∙◌, string_bytes, ap}
use Rattle.dds_qos.specs.declared.limits.ReaderLimits.{ReaderLimits}
use Rattle.dds_lists.specs.Lists.{Lists}
use Rattle.dds_match.specs.Plan.{network_of}
use Rattle.dds_text.specs.Names.{reader_name}
use Rattle.dds_explain.specs.Pieces.{limit_text}
use Rattle.dds_explain.proofs.limits.reader_instances_lines.Goals as goal

pub returns : goal.returns
returns c =
    let limit : string_bytes c.in_ok-limit.limit ≡ limit_text ((network_of c.args.plan.now).reader_limits c.args.reader).max_instances =
    c.in_ok-limit.ensures ∙ ap (λ (x : ReaderLimits). limit_text x.max_instances) c.reader_limits.ensures in
    let name : c.reader_name-name.result.now ≡ reader_name c.args.plan.now c.args.reader = c.reader_name-name.ensures ∙ ap (λ (d : Lists). reader_name d c.args.reader) c.lists.ensures.value in
    rw (c.reached-count.ensures, name, limit, c.in_ok-keys.ensures) at c.format.ensures.ok
