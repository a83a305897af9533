-- The picture of a deployment, as a document in DOT.
use Rattle.std.specs.Prelude.{codes, ℕ, List, ◌++◌, Option}
use Rattle.dds_lists.specs.Lists.{Lists}
use Rattle.dds_weights.specs.Lists.{Certificate}
use Rattle.dds_draw.specs.Clusters.{participant_clusters}
use Rattle.dds_draw.specs.Edges.{all_pair_edges, all_rule_edges}

-- clusters, then the edges of rules, then those from writers to readers
unfoldable pub drawing : Lists → Option Certificate → List ℕ
drawing d c =
    codes "digraph deployment {\n  rankdir=LR;\n  node [shape=box];\n" ++ (participant_clusters d c ++ (all_rule_edges d ++ (all_pair_edges d ++ codes "}\n")))
