use Rattle.std.proofs.Common.{rules, ◌≡◌, ◌∙◌, ap, subst, length, IfOk, string_bytes}
use Rattle.dds_show.specs.Connections.{connection_piece, matching_pairs}
use Rattle.dds_text.specs.Texts.{each_below}
use Rattle.dds_show.proofs.connections.connections_text.Goals as goal

pub returns : goal.returns
returns c =
    let count : c.len.result ≡ length (matching_pairs c.args.plan.now) = c.len.ensures ∙ c.in_ok-pairs.pairs.ok.0 ∙ ap length c.in_ok-pairs.ensures in
    subst (λ n. IfOk c.text_below.result (λ text. string_bytes text ≡ each_below n (connection_piece c.args.plan.now))) count
    (c.text_below.ensures (connection_piece c.args.plan.now) (λ i r below post. search rules))
