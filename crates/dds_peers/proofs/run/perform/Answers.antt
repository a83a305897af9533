use Rattle.std.proofs.Common.{rules, ◌≡◌, [], length, map, All, sym, ap, ◌∙◌, subst, arith, true, false}
use Rattle.std.specs.List.{range_with_len}
use Rattle.std.specs.Vec.{vec_len}
use Rattle.dds_apps.specs.Kept.{entries_of}
use Rattle.dds_peers.proofs.ListLaws.{mapped_len, yes, no}
use Rattle.dds_apps.proofs.KeptLaws.{closed_deeds, closed_counts}
use Rattle.dds_peers.proofs.run.perform.Goals as goal

pub sit-players-requires-clause-fresh : goal.sit-players-requires-clause-fresh
sit-players-requires-clause-fresh g c e =
    subst (All (λ a. (g.A.App.notes a).entries ≡ [])) c.as_slice.ensures.value (yes c.are_fresh-fresh.result _ _ c.are_fresh-fresh.ensures e)

pub together-players-requires-clause-playing : goal.together-players-requires-clause-playing
together-players-requires-clause-playing g c κs within =
    let n : c.len-number.result ≡ length c.args.apps.items = search rules in
    let len = mapped_len (λ p. p.seat.number) c.sit-players.result.items _ c.sit-players.ensures.numbers in
    let v : vec_len c.sit-players.result ≡ length c.sit-players.result.items = search rules in
    let room = c.in-Ok-rooms_for.ensures.threads_room.0 in
    (c.in-Ok-rooms_for.ensures.threads_empty.0, omega arith)

pub together-players-requires-clause-done : goal.together-players-requires-clause-done
together-players-requires-clause-done g c κs within =
    let n : c.len-number.result ≡ length c.args.apps.items = search rules in
    let len = mapped_len (λ p. p.seat.number) c.sit-players.result.items _ c.sit-players.ensures.numbers in
    let v : vec_len c.sit-players.result ≡ length c.sit-players.result.items = search rules in
    let room = c.in-Ok-rooms_for.ensures.threads_room.1 in
    (c.in-Ok-rooms_for.ensures.threads_empty.1, omega arith)

pub together-players-requires-clause-numbers : goal.together-players-requires-clause-numbers
together-players-requires-clause-numbers g c κs within =
    let len = mapped_len (λ p. p.seat.number) c.sit-players.result.items _ c.sit-players.ensures.numbers in
    c.sit-players.ensures.numbers ∙ ap (range_with_len 0) (sym len)

pub settle-left-requires-clause-room : goal.settle-left-requires-clause-room
settle-left-requires-clause-room g c =
    let n : c.len-number.result ≡ length c.args.apps.items = search rules in
    let sat = mapped_len (λ p. p.seat.number) c.sit-players.result.items _ c.sit-players.ensures.numbers in
    let all : c.together-players.result.1 ≡ true = search rules in
    let len = mapped_len (λ p. p.seat.number) c.together-players.result.0.items _ (c.together-players.ensures.numbers all) in
    let v : vec_len c.together-players.result.0 ≡ length c.together-players.result.0.items = search rules in
    let room = c.in-Ok-rooms_for.ensures.left_room in
    let a = room.0 in
    let b = room.1 in
    let d = room.2 in
    let e = room.3 in
    (omega arith, omega arith, omega arith, omega arith)

pub returns-then-not-fresh-clause-mismatch : goal.returns-then-not-fresh-clause-mismatch
returns-then-not-fresh-clause-mismatch g c is all =
    let no_ : c.are_fresh-fresh.result ≡ false = search rules in
    no c.are_fresh-fresh.result _ _ c.are_fresh-fresh.ensures no_ (subst (All (λ a. (g.A.App.notes a).entries ≡ [])) (sym c.as_slice.ensures.value) all)

pub returns-clause-identities : goal.returns-clause-identities
returns-clause-identities g c =
    let all : c.together-players.result.1 ≡ true = search rules in
    c.settle-left.ensures.identities ∙ c.together-players.ensures.identities all ∙ c.sit-players.ensures.identities

pub returns-clause-diaries : goal.returns-clause-diaries
returns-clause-diaries g c =
    let sat = mapped_len (λ p. p.seat.number) c.sit-players.result.items _ c.sit-players.ensures.numbers in
    let all : c.together-players.result.1 ≡ true = search rules in
    let fresh : c.are_fresh-fresh.result ≡ true = search rules in
    let numbers = c.settle-left.ensures.numbers ∙ c.together-players.ensures.numbers all ∙ ap (range_with_len 0) sat in
    c.settle-left.ensures.diaries fresh ∙ closed_deeds c.close-journal.result c.settle-left.result.seats.items c.close-journal.ensures.fronts ∙ ap (map (λ i. entries_of i c.close-journal.result)) numbers

pub returns-clause-gauge : goal.returns-clause-gauge
returns-clause-gauge g c =
    let sat = mapped_len (λ p. p.seat.number) c.sit-players.result.items _ c.sit-players.ensures.numbers in
    let all : c.together-players.result.1 ≡ true = search rules in
    let numbers = c.settle-left.ensures.numbers ∙ c.together-players.ensures.numbers all ∙ ap (range_with_len 0) sat in
    c.settle-left.ensures.counts ∙ closed_counts c.close-journal.result c.settle-left.result.seats.items c.close-journal.ensures.fronts ∙ ap (λ l. map length (map (λ i. entries_of i c.close-journal.result) l)) numbers

pub returns-clause-ends : goal.returns-clause-ends
returns-clause-ends g c =
    let sat = mapped_len (λ p. p.seat.number) c.sit-players.result.items _ c.sit-players.ensures.numbers in
    let all : c.together-players.result.1 ≡ true = search rules in
    c.settle-left.ensures.ends ∙ mapped_len (λ p. p.seat.number) c.together-players.result.0.items _ (c.together-players.ensures.numbers all) ∙ sat

pub returns-clause-fresh : goal.returns-clause-fresh
returns-clause-fresh g c =
    let fresh : c.are_fresh-fresh.result ≡ true = search rules in
    subst (All (λ a. (g.A.App.notes a).entries ≡ [])) c.as_slice.ensures.value (yes c.are_fresh-fresh.result _ _ c.are_fresh-fresh.ensures fresh)
