use Rattle.std.proofs.Common.{rules, ◌≡◌, ◌<◌, Some, length, refl, slice_get}
use Rattle.std.proofs.lemmas.Option.{slice_get_read}
use Rattle.dds_search.proofs.GivenUp.{written_at}
use Rattle.dds_search.proofs.loss.giving_up.written_key.Goals as goal

pub returns-in-Some-key_of : goal.returns-in-Some-key_of
returns-in-Some-key_of c =
    let low : c.loop-place.place < length c.args.events.now = search rules in
    let at : slice_get c.args.events.now c.loop-place.place ≡ Some c.index-events-place.result =
    slice_get_read c.args.events.now (length c.args.events.now) c.loop-place.place c.index-events-place.result refl low c.index-events-place.is in
    let too : slice_get c.args.replies.now c.loop-place.place ≡ Some c.in-Some.reply.now =
    slice_get_read c.args.replies.now (length c.args.replies.now) c.loop-place.place c.in-Some.reply.now refl c.in-Some.ensures.lookup.3.0 c.in-Some.ensures.lookup.1 in
    written_at c.args.events.now c.args.replies.now c.loop-place.place c.args.writer c.args.number c.in-Some-key_of.key c.index-events-place.result c.in-Some.reply.now at too c.in-Some-key_of.ensures
