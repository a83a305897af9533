use Rattle.std.proofs.Common.{◌≡◌, ◌∙◌, string_bytes, ap}
use Rattle.dds_qos.specs.declared.limits.ReaderLimits.{ReaderLimits}
use Rattle.dds_lists.specs.Lists.{Lists}
use Rattle.dds_match.specs.Plan.{network_of}
use Rattle.dds_text.specs.Names.{reader_key, reader_name}
use Rattle.dds_runs.specs.Accepted.{instance_limit}
use Rattle.dds_explain.specs.Pieces.{instance_limit_name, limit_text}
use Rattle.dds_explain.proofs.limits.no_bound_line.Goals as goal

pub returns : goal.returns
returns c =
    let key : c.reader_key-key.result.now ≡ reader_key c.args.plan.now c.args.reader c.args.key =
    c.reader_key-key.ensures ∙ ap (λ (d : Lists). reader_key d c.args.reader c.args.key) c.lists.ensures.value in
    let policy : c.instance_limit_name-policy.result.now ≡ instance_limit_name ((network_of c.args.plan.now).reader_limits c.args.reader) =
    c.instance_limit_name-policy.ensures ∙ ap instance_limit_name c.reader_limits-limits.ensures in
    let limit : string_bytes c.in_ok-limit.limit ≡ limit_text (instance_limit ((network_of c.args.plan.now).reader_limits c.args.reader)) =
    c.in_ok-limit.ensures ∙ (ap limit_text c.instance_limit.ensures ∙ ap (λ (x : ReaderLimits). limit_text (instance_limit x)) c.reader_limits-limits.ensures) in
    let name : c.reader_name-name.result.now ≡ reader_name c.args.plan.now c.args.reader = c.reader_name-name.ensures ∙ ap (λ (d : Lists). reader_name d c.args.reader) c.lists-2.ensures.value in
    rw (key, name, policy, limit) at c.format.ensures.ok
