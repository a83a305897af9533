use Rattle.std.proofs.Common.{◌≡◌, ◌+◌, ◌-◌, ◌++◌, ℕ, List, [], ◌∷◌, Option, Some, None, map, length, take, drop, get_or, ap, sym, ◌∙◌, subst, arith, rules}
use Rattle.std.specs.Option.{IfSome, option_to_list}
use Rattle.std.specs.Vec.{vec_len}
use Rattle.std.specs.List.{range_with_len}
use Rattle.std.proofs.lemmas.List.FromFn.{length-map-range_with_len}
use Rattle.dds_book.specs.Gauge.{GaugeState, GaugeSeatState, fresh_seat}
use Rattle.dds_apps.specs.Kept.{AreOwners}
use Rattle.dds_peers.proofs.Owners.{first_are_owners}
use Rattle.test_threads.proofs.tests.meeting.watched_gauge.Goals as goal

-- of the seats of a new gauge all but the last are the owners'
owners : (gauge : GaugeState) (apps : ℕ) → gauge.apps ≡ apps → (all seats : List GaugeSeatState)
    → all ≡ map (fresh_seat gauge.table apps) (range_with_len 0 (apps + 1)) → seats ≡ take (length all - 1) all → AreOwners gauge apps seats
owners gauge apps count all seats made rest =
    let few : length all - 1 ≡ apps = rw made (let n = length-map-range_with_len (fresh_seat gauge.table apps) 0 (apps + 1) in omega (arith, n)) in
    subst (λ n. AreOwners gauge n seats) count
    (rw (rest, few, made, ← count) (first_are_owners gauge 1))

-- the seats are all of one gauge
of_gauge : (gauge : GaugeState) (apps : ℕ) (places : List ℕ) (seats : List GaugeSeatState) (one : Option GaugeSeatState)
    → map (fresh_seat gauge.table apps) places ≡ seats ++ option_to_list one → IfSome one (λ seat. seat.table ≡ gauge.table)
of_gauge gauge apps places seats None is = tt
of_gauge gauge apps [] [] (Some seat) is = absurd (let n = ap length is in omega (arith, n))
of_gauge gauge apps (p ∷ places) [] (Some seat) is = sym (ap (λ l. (get_or l 0 seat).table) is)
of_gauge gauge apps [] (s ∷ seats) (Some seat) is = absurd (let n = ap length is in omega (arith, n))
of_gauge gauge apps (p ∷ places) (s ∷ seats) (Some seat) is = of_gauge gauge apps places seats (Some seat) (ap (drop 1) is)

-- so is the last
monitor_of : (gauge : GaugeState) (apps : ℕ) (all seats : List GaugeSeatState) (one : Option GaugeSeatState)
    → all ≡ map (fresh_seat gauge.table apps) (range_with_len 0 (apps + 1)) → all ≡ seats ++ option_to_list one → IfSome one (λ seat. seat.table ≡ gauge.table)
monitor_of gauge apps all seats one made is = of_gauge gauge apps (range_with_len 0 (apps + 1)) seats one (sym made ∙ is)

pub returns-clause-owners : goal.returns-clause-owners
returns-clause-owners c =
    let all : List GaugeSeatState = c.in-Ok.both.1.items in
    let len : vec_len c.in-Ok.both.1 ≡ length all = search rules in
    owners c.in-Ok.both.0 c.args.apps c.in-Ok.ensures.apps all c.pop-monitor.new.self.items c.in-Ok.ensures.seats (c.pop-monitor.ensures.rest ∙ ap (λ n. take (n - 1) all) len)

pub returns-clause-monitor : goal.returns-clause-monitor
returns-clause-monitor c =
    monitor_of c.in-Ok.both.0 c.args.apps c.in-Ok.both.1.items c.pop-monitor.new.self.items c.pop-monitor.result c.in-Ok.ensures.seats c.pop-monitor.ensures.items
