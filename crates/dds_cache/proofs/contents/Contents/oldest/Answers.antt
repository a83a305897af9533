use Rattle.std.proofs.Common.{◌≡◌, ◌∙◌, ap, Some, rules}
use Rattle.std.specs.Prelude.{option_map}
use Rattle.dds_cache.specs.Order.{Held, sample_of, samples_of}
use Rattle.dds_cache.proofs.MapLaws.{some_same}
use Rattle.dds_cache.proofs.PlaceLaws.{first_at, first_nowhere}
use Rattle.dds_cache.proofs.TicketLaws.{in_order, found_at}
use Rattle.dds_cache.proofs.contents.Contents.oldest.Goals as goal

pub returns-in-Some-get : goal.returns-in-Some-get
returns-in-Some-get c =
    let s = c.args.self.now.order in
    let m = samples_of s.places in
    let f = c.in-Some.ensures in
    let p = c.in-Some.place in
    let is : sample_of p f.held.1 ≡ c.in-Some-get.oldest = some_same (ap (option_map (λ (h : Held). sample_of p h.1)) f.there) (search rules) in
    first_at m c.args.sample.now.key f.held.0 c.args.sample.now c.in-Some-get.oldest (in_order s.places.entries) f.first
    (found_at s.places.entries p f.held s.apart f.there ∙ ap Some is)

pub returns-in_default : goal.returns-in_default
returns-in_default c =
    let s = c.args.self.now.order in
    first_nowhere (samples_of s.places) c.args.sample.now.key c.args.sample.now (in_order s.places.entries) c.in_default.ensures
