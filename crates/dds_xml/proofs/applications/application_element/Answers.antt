use Rattle.std.proofs.Common.{rules, ◌≡◌, ◌∙◌, ap₂, codes, string_bytes}
use Rattle.dds_text.specs.Names.{name_at}
use Rattle.dds_xml.specs.Applications.{owned_element, owned_elements}
use Rattle.dds_xml.proofs.applications.application_element.Goals as goal

pub returns : goal.returns
returns c =
    let d = c.args.lists.now in
    let x = c.args.x.now in
    let participant : c.name_at-participant.result.now ≡ name_at d.participants.names x.participant = c.name_at-participant.ensures ∙ ap₂ name_at c.participant_names.ensures c.number.ensures in
    let publishers : string_bytes c.in_ok-publishers.publishers ≡ owned_elements (codes "publisher") d.writers.names x.writers.items =
    c.in_ok-publishers.ensures (owned_element (codes "publisher")) (λ name r post. search rules) ∙ ap₂ (owned_elements (codes "publisher")) c.writer_names.ensures c.as_slice-writers.ensures.value in
    let subscribers : string_bytes c.in_ok-subscribers.subscribers ≡ owned_elements (codes "subscriber") d.readers.names x.readers.items =
    c.in_ok-subscribers.ensures (owned_element (codes "subscriber")) (λ name r post. search rules) ∙ ap₂ (owned_elements (codes "subscriber")) c.reader_names.ensures c.as_slice-readers.ensures.value in
    rw (participant, publishers, subscribers) at c.format.ensures.ok
