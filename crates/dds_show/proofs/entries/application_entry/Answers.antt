use Rattle.std.proofs.Common.{◌≡◌, ◌∙◌, ap₂, string_bytes}
use Rattle.dds_text.specs.Names.{name_at}
use Rattle.dds_show.specs.Entries.{numbered_items}
use Rattle.dds_show.proofs.entries.application_entry.Goals as goal

pub returns : goal.returns
returns c =
    let d = c.args.lists.now in
    let x = c.args.x.now in
    let participant : c.name_at-participant.result.now ≡ name_at d.participants.names x.participant = c.name_at-participant.ensures ∙ ap₂ name_at c.participant_names.ensures c.number.ensures in
    let writers : string_bytes c.in_ok-writers.writers ≡ numbered_items d.writers.names x.writers.items = c.in_ok-writers.ensures ∙ ap₂ numbered_items c.writer_names.ensures c.as_slice.ensures.value in
    let readers : string_bytes c.in_ok-readers.readers ≡ numbered_items d.readers.names x.readers.items = c.in_ok-readers.ensures ∙ ap₂ numbered_items c.reader_names.ensures c.as_slice-2.ensures.value in
    rw (participant, writers, readers) at c.format.ensures.ok
