use Rattle.std.proofs.Common.{◌≡◌, ◌∙◌, string_bytes, ap}
use Rattle.dds_lists.specs.Lists.{Lists}
use Rattle.dds_text.specs.Names.{reader_key}
use Rattle.dds_runs.specs.Accepted.{row_of}
use Rattle.dds_explain.specs.Shown.{shown_text}
use Rattle.dds_explain.proofs.shown.sample_line.Goals as goal

pub returns : goal.returns
returns c =
    let key : c.reader_key-key.result.now ≡ reader_key c.args.plan.now c.args.reader c.args.key =
    c.reader_key-key.ensures ∙ ap (λ (d : Lists). reader_key d (c.args.reader) (c.args.key)) c.lists.ensures.value in
    let shown : string_bytes c.in_ok-shown.shown ≡ shown_text c.args.whole ((row_of c.args.weights.now).samples c.args.reader c.args.key) =
    c.in_ok-shown.ensures ∙ ap (shown_text c.args.whole) c.sample-weight.ensures in
    rw (key, shown, c.sample-weight.ensures) at c.format.ensures.ok
