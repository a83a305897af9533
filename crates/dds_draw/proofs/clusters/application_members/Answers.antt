use Rattle.std.proofs.Common.{rules, ◌≡◌, ◌∙◌, ap₂, codes, string_bytes}
use Rattle.dds_draw.specs.Clusters.{application_members, endpoint_name, endpoint_names}
use Rattle.dds_draw.proofs.clusters.application_members.Goals as goal

pub returns : goal.returns
unfolding application_members
returns c =
    let d = c.args.lists.now in
    let x = c.args.x.now in
    let writers : string_bytes c.in_ok-writers.writers ≡ endpoint_names (codes "writer") d.writers.names x.writers.items =
    c.in_ok-writers.ensures (endpoint_name (codes "writer")) (λ name r post. search rules) ∙ ap₂ (endpoint_names (codes "writer")) c.writer_names.ensures c.as_slice-writers.ensures.value in
    let readers : string_bytes c.in_ok-readers.readers ≡ endpoint_names (codes "reader") d.readers.names x.readers.items =
    c.in_ok-readers.ensures (endpoint_name (codes "reader")) (λ name r post. search rules) ∙ ap₂ (endpoint_names (codes "reader")) c.reader_names.ensures c.as_slice-readers.ensures.value in
    rw (writers, readers, c.in_ok-rules.ensures) at c.format.ensures.ok
