use Rattle.std.proofs.Common.{sym, ◌∙◌}
use Rattle.std.proofs.lemmas.Map.Entries.{length-values_of}
use Rattle.dds_cache.specs.Order.{samples_of}
use Rattle.dds_cache.proofs.TicketLaws.{length_is}
use Rattle.dds_cache.proofs.contents.Contents.stored.Goals as goal

pub returns : goal.returns
returns c =
    let s = c.args.self.now.order in
    c.len.ensures.len ∙ sym (length-values_of (samples_of s.places) ∙ length_is s.places.entries s.apart)
