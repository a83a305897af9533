use Rattle.std.proofs.Common.{◌≡◌, ◌∙◌, ap₂}
use Rattle.dds_text.specs.Names.{name_at}
use Rattle.dds_draw.specs.Clusters.{participant_cluster}
use Rattle.dds_draw.proofs.clusters.participant_cluster.Goals as goal

pub returns : goal.returns
unfolding participant_cluster
returns c =
    let name : c.name_at-name.result.now ≡ name_at c.args.lists.now.participants.names c.args.number = c.name_at-name.ensures ∙ ap₂ name_at c.participant_names.ensures c.number.ensures in
    rw (name, c.border-border.ensures, c.in_ok-members.ensures) at c.format.ensures.ok
