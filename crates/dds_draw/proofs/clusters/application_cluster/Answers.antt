use Rattle.std.proofs.Common.{◌≡◌, ◌∙◌, ap₂}
use Rattle.dds_text.specs.Names.{name_at}
use Rattle.dds_draw.specs.Clusters.{application_cluster}
use Rattle.dds_draw.proofs.clusters.application_cluster.Goals as goal

pub returns : goal.returns
unfolding application_cluster
returns c =
    let name : c.name_at-name.result.now ≡ name_at c.args.lists.now.applications.names c.args.number = c.name_at-name.ensures ∙ ap₂ name_at c.application_names.ensures c.number.ensures in
    rw (name, c.in_ok-members.ensures) at c.format.ensures.ok
