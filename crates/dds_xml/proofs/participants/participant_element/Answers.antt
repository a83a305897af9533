use Rattle.std.proofs.Common.{◌≡◌, ◌∙◌, ap₂}
use Rattle.dds_text.specs.Names.{name_at}
use Rattle.dds_xml.proofs.participants.participant_element.Goals as goal

pub returns : goal.returns
returns c =
    let name : c.name_at-name.result.now ≡ name_at c.args.lists.now.participants.names c.args.p = c.name_at-name.ensures ∙ ap₂ name_at c.participant_names.ensures c.number.ensures in
    rw (name, c.joins_comment-joins.ensures, c.in_ok-publishers.ensures, c.in_ok-subscribers.ensures) at c.format.ensures.ok
