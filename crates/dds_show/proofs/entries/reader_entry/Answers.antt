use Rattle.std.proofs.Common.{◌≡◌, ◌∙◌, ap, map, string_bytes}
use Rattle.dds_lists.specs.Lists.{keys_at}
use Rattle.dds_show.specs.Entries.{may_lose_field, numbered_items, qos_fields}
use Rattle.dds_show.proofs.entries.reader_entry.Goals as goal

pub returns : goal.returns
returns c =
    let x = c.args.x.now in
    let filter : string_bytes c.in_ok-filter.filter ≡ numbered_items (keys_at c.args.lists.now.topics x.topic) x.filter.items =
    c.in_ok-filter.ensures ∙ ap (numbered_items (keys_at c.args.lists.now.topics x.topic)) c.as_slice.ensures.value in
    let qos : string_bytes c.in_ok-qos.qos ≡ qos_fields x.qos.requested (map string_bytes x.partitions.items) =
    c.in_ok-qos.ensures ∙ ap (λ partitions. qos_fields x.qos.requested (map string_bytes partitions)) c.as_slice-2.ensures.value in
    let may_lose : c.may_lose_field-may_lose.result.now ≡ may_lose_field c.args.lists.now.version x.may_lose =
    c.may_lose_field-may_lose.ensures ∙ ap (λ version. may_lose_field version x.may_lose) c.version.ensures in
    rw (c.in_ok-place.ensures, filter, may_lose, c.in_ok-spans.ensures, qos) at c.format.ensures.ok
