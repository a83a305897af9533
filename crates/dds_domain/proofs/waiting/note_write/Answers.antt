use Rattle.std.proofs.Common.{◌≡◌, ◌<◌, List, [], All, length, get_or, sym, subst, ◌∙◌, arith}
use Rattle.dds_flights.specs.Flight.{FlightState, HasRoom}
use Rattle.dds_domain.specs.Standing.{flights_of}
use Rattle.dds_domain.proofs.Slots.{defaults}
use Rattle.dds_domain.proofs.waiting.note_write.Goals as goal

pub note_write-requires : goal.note_write-requires
note_write-requires c =
    let all : List (List FlightState) = c.args.flights.now.items in
    let w = c.args.writer in
    let within : w < length all = (let count = c.len.ensures in let number = c.number-place.ensures in let less = c.if-place-len.true in let size = c.args.flights.now.ok.0 in omega arith) in
    let same : c.index_mut.result.now ≡ flights_of all w =
    subst (λ i. c.index_mut.result.now ≡ get_or all i c.index_mut.result.now) c.number-place.ensures c.index_mut.ensures.value ∙ defaults all w c.index_mut.result.now [] within in
    subst (All (λ f. f.key ≡ c.args.key → HasRoom f)) (sym same) c.requires
