-- The seats of a book that was just opened: those of the applications, and then those of the participants.
use Rattle.std.proofs.Common.{◌≡◌, ℕ, zero, suc, ◌+◌, ◌-◌, ◌<◌, ◌≤◌, true, ◌&&◌, List, length, map, drop, All, ap, ap₂, ◌∙◌, subst, sym, arith}
use Rattle.std.proofs.lemmas.Bool.{le-leb, lt-ltb}
use Rattle.std.specs.List.{range_with_len}
use Rattle.dds_lists.specs.Lists.{Lists}
use Rattle.dds_book.specs.Owning.{is_participant, seat_count}
use Rattle.dds_book.specs.Seat.{SeatState, new_seat}

drop_range : {X : Type 0} (f : ℕ → X) (k a n m : ℕ) → k + m ≡ n → drop k (map f (range_with_len a n)) ≡ map f (range_with_len (a + k) m)
drop_range f zero a n m is =
    let all : n ≡ m = omega arith in
    let first : a ≡ a + 0 = omega arith in
    ap (λ l. map f (range_with_len a l)) all ∙ ap (λ l. map f (range_with_len l m)) first
drop_range f (suc k) a zero m is = absurd (omega arith)
drop_range f (suc k) a (suc n) m is =
    let next : a + 1 + k ≡ a + suc k = omega arith in
    drop_range f k (a + 1) n m (omega arith) ∙ ap (λ l. map f (range_with_len l m)) next

participant : (plan : Lists) (seat : ℕ) → length plan.applications.entries ≤ seat → seat < seat_count plan → is_participant plan seat ≡ true
participant plan seat after before = ap₂ (λ a b. a && b) (le-leb (length plan.applications.entries) seat after) (lt-ltb seat (seat_count plan) before)

participants_from : (plan : Lists) (a n : ℕ) → length plan.applications.entries ≤ a → a + n ≤ seat_count plan → All (λ (s : SeatState). is_participant plan s.number ≡ true) (map new_seat (range_with_len a n))
participants_from plan a zero after before k d less = absurd (omega arith)
participants_from plan a (suc n) after before zero d less = participant plan a after (omega arith)
participants_from plan a (suc n) after before (suc k) d less = participants_from plan (a + 1) n (omega arith) (omega arith) k d (omega arith)

-- the seats after those of the applications are the participants'
pub participants : (plan : Lists) (apps count : ℕ) (seats others : List SeatState) → apps ≡ length plan.applications.entries → count ≡ seat_count plan → seats ≡ map new_seat (range_with_len 0 count) → others ≡ drop apps seats
    → All (λ (s : SeatState). is_participant plan s.number ≡ true) others
participants plan apps count seats others is whole all rest =
    let first : 0 + apps ≡ apps = omega arith in
    let e = rest ∙ ap (drop apps) all ∙ drop_range new_seat apps 0 count (count - apps) (omega arith) ∙ ap (λ l. map new_seat (range_with_len l (count - apps))) first in
    subst (All (λ (s : SeatState). is_participant plan s.number ≡ true)) (sym e) (participants_from plan apps (count - apps) (omega arith) (omega arith))
