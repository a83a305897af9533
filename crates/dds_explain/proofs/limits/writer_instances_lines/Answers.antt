use Rattle.std.proofs.Common.{◌≡◌, ◌∙◌, string_bytes, ap}
use Rattle.dds_qos.specs.declared.limits.WriterLimits.{WriterLimits}
use Rattle.dds_lists.specs.Lists.{Lists}
use Rattle.dds_match.specs.Plan.{network_of}
use Rattle.dds_text.specs.Names.{writer_name}
use Rattle.dds_explain.specs.Pieces.{limit_text}
use Rattle.dds_explain.proofs.limits.writer_instances_lines.Goals as goal

pub returns : goal.returns
returns c =
    let limit : string_bytes c.in_ok-limit.limit ≡ limit_text ((network_of c.args.plan.now).writer_limits c.args.writer).max_instances =
    c.in_ok-limit.ensures ∙ ap (λ (x : WriterLimits). limit_text x.max_instances) c.writer_limits.ensures in
    let name : c.writer_name-name.result.now ≡ writer_name c.args.plan.now c.args.writer = c.writer_name-name.ensures ∙ ap (λ (d : Lists). writer_name d c.args.writer) c.lists.ensures.value in
    rw (c.written-count.ensures, name, limit, c.in_ok-keys.ensures) at c.format.ensures.ok
