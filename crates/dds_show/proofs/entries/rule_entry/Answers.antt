use Rattle.std.proofs.Common.{◌≡◌, ◌∙◌, ap, ap₂, string_bytes}
use Rattle.dds_text.specs.Names.{name_at}
use Rattle.dds_show.specs.Entries.{take_items, write_items}
use Rattle.dds_show.proofs.entries.rule_entry.Goals as goal

pub returns : goal.returns
returns c =
    let d = c.args.lists.now in
    let x = c.args.x.now in
    let application : c.name_at-application.result.now ≡ name_at d.applications.names x.application =
    c.name_at-application.ensures ∙ ap₂ name_at c.application_names.ensures c.number.ensures in
    let takes : string_bytes c.in_ok-takes.takes ≡ take_items d x.takes.items = c.in_ok-takes.ensures ∙ ap (take_items d) c.as_slice.ensures.value in
    let writes : string_bytes c.in_ok-writes.writes ≡ write_items d x.writes.items = c.in_ok-writes.ensures ∙ ap (write_items d) c.as_slice-2.ensures.value in
    rw (c.in_ok-origin.ensures, application, takes, writes, c.in_ok-start.ensures, c.in_ok-pace.ensures) at c.format.ensures.ok
