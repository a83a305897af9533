-- What a seat has done, by its front.
use Rattle.std.proofs.Common.{◌≡◌, ℕ, suc, ◌+◌, ◌<◌, ◌≤◌, Bool, true, false, cond, eqb, eq-eqb, List, [], ◌∷◌, ◌++◌, length, All, Some, refl, sym, ap, ◌∙◌, subst, arith, append-nil, length-append, map}
use Rattle.std.proofs.lemmas.List.Elements.{filter-append}
use Rattle.std.proofs.lemmas.List.Sums.{sum_by-append}
use Rattle.std.specs.List.{filter}
use Rattle.dds_base.specs.declared.events.Event.{Event}
use Rattle.dds_base.specs.declared.events.Reply.{Reply}
use Rattle.dds_lists.specs.Lists.{Lists}
use Rattle.dds_book.specs.declared.entry.Entry.{Entry}
use Rattle.dds_book.specs.Gauge.{GaugeSeatState, GaugeState}
use Rattle.dds_book.specs.Journal.{IsCall, IsFront, calls_by, entry_of, pairs_of}
use Rattle.dds_book.specs.Seat.{SeatState, new_seat}
use Rattle.dds_apps.specs.Kept.{IsKept, claim_of, done_by, entries_of, new_claim}

abbrev Deed : Type 0
Deed = Event × Reply

-- ── parts of lists
pairs_append : (xs ys : List Entry) → pairs_of (xs ++ ys) ≡ pairs_of xs ++ pairs_of ys
pairs_append [] ys = refl
pairs_append (x ∷ xs) ys = ap (λ l. (x.event, x.reply) ∷ l) (pairs_append xs ys)

entries_append : (seat : ℕ) (xs ys : List Entry) → entries_of seat (xs ++ ys) ≡ entries_of seat xs ++ entries_of seat ys
entries_append seat xs ys =
    let p : Entry → Bool = λ e. eqb e.seat seat in
    ap pairs_of (filter-append p xs ys) ∙ pairs_append (filter p xs) (filter p ys)

entries_none : (seat : ℕ) (xs : List Entry) → calls_by seat xs ≡ 0 → entries_of seat xs ≡ []
entries_none seat [] none = refl
entries_none seat (x ∷ xs) none = go (eqb x.seat seat) (λ is. entries_none seat xs is) (let a = sum_by-append (λ (y : Entry). cond (eqb y.seat seat) 1 0) (x ∷ []) xs in let n : calls_by seat (x ∷ xs) ≡ 0 = none in omega arith)
  where
    go : (b : Bool) → (calls_by seat xs ≡ 0 → entries_of seat xs ≡ []) → cond b 1 0 + calls_by seat xs ≡ 0 → pairs_of (cond b (x ∷ filter (λ (e : Entry). eqb e.seat seat) xs) (filter (λ (e : Entry). eqb e.seat seat) xs)) ≡ []
    go true rest e = absurd (omega arith)
    go false rest e = rest (omega arith)

entries_short : (seat : ℕ) (xs : List Entry) → length (entries_of seat xs) ≤ length xs
entries_short seat [] = omega arith
entries_short seat (x ∷ xs) = go (eqb x.seat seat) (entries_short seat xs)
  where
    go : (b : Bool) → length (entries_of seat xs) ≤ length xs → length (pairs_of (cond b (x ∷ filter (λ (e : Entry). eqb e.seat seat) xs) (filter (λ (e : Entry). eqb e.seat seat) xs))) ≤ suc (length xs)
    go true less = omega arith
    go false less = omega arith

-- ── calls
after_call : (plan : Lists) (seat : ℕ) (old new : List Entry) (event : Event) (reply : Reply) → IsCall plan seat old new event reply → entries_of seat new ≡ entries_of seat old ++ (event, reply) ∷ []
after_call plan seat old new event reply call =
    let e : Entry = entry_of seat event reply in
    let one : entries_of seat (e ∷ []) ≡ (event, reply) ∷ [] = ap (λ b. pairs_of (cond b (e ∷ []) [])) (eq-eqb seat seat refl) in
    ap (entries_of seat) call.ends
    ∙ entries_append seat (old ++ call.between) (e ∷ [])
    ∙ ap (λ l. l ++ entries_of seat (e ∷ [])) (entries_append seat old call.between ∙ ap (λ l. entries_of seat old ++ l) (entries_none seat call.between call.none) ∙ append-nil (entries_of seat old))
    ∙ ap (λ l. entries_of seat old ++ l) one

-- what a call adds to what the seat has done
pub done_more : (plan : Lists) (was now : SeatState) (event : Event) (reply : Reply) → now.number ≡ was.number → IsCall plan was.number was.front now.front event reply → done_by now ≡ done_by was ++ (event, reply) ∷ []
done_more plan was now event reply number call = ap (λ n. entries_of n now.front) number ∙ after_call plan was.number was.front now.front event reply call

pub count_more : (plan : Lists) (was now : SeatState) (event : Event) (reply : Reply) → now.number ≡ was.number → IsCall plan was.number was.front now.front event reply → length (done_by now) ≡ length (done_by was) + 1
count_more plan was now event reply number call = ap length (done_more plan was now event reply number call) ∙ length-append (done_by was) ((event, reply) ∷ [])

-- so the count is far from full
pub count_low : (plan : Lists) (was now : SeatState) (event : Event) (reply : Reply) → now.number ≡ was.number → IsCall plan was.number was.front now.front event reply → length (done_by was) + 1 ≤ 1048576
count_low plan was now event reply number call =
    let more = count_more plan was now event reply number call in
    let short = entries_short now.number now.front in
    let low = call.journal.few in
    omega arith

-- ── an application that sits down
pub kept_new : (gauge : GaugeState) (fresh : Bool) (seat seat' : SeatState) (counter counter' : GaugeSeatState) (n : ℕ) (diary : List Deed) → seat ≡ new_seat n → claim_of counter ≡ new_claim gauge.table n → seat' ≡ seat → counter' ≡ counter → n < gauge.apps → (fresh ≡ true → diary ≡ [])
    → IsKept gauge fresh seat' counter' diary
kept_new gauge fresh seat seat' counter counter' n diary is owns same same' low none =
    let s = same ∙ is in
    let c = ap claim_of same' ∙ owns in record {
      counted = record {
        gauge = ap (λ x. x.table) c;
        owner = ap (λ x. x.owner) c ∙ ap (λ x. Some x.number) (sym s);
        count = ap (λ x. x.count) c ∙ ap (λ x. length (done_by x)) (sym s);
      };
      app = subst (λ x. x.number < gauge.apps) (sym s) low;
      entries = λ f. ap done_by s ∙ sym (none f);
    }

-- ── at the end
at_close : (seat : ℕ) (front log : List Entry) → IsFront seat front log → entries_of seat log ≡ entries_of seat front
at_close seat front log f = ap (entries_of seat) f.begins ∙ entries_append seat front f.later ∙ ap (λ l. entries_of seat front ++ l) (entries_none seat f.later f.none) ∙ append-nil (entries_of seat front)

-- what the seats have done is their parts of the closed journal
pub closed_deeds : (log : List Entry) (seats : List SeatState) → All (λ s. IsFront s.number s.front log) seats → map done_by seats ≡ map (λ i. entries_of i log) (map (λ s. s.number) seats)
closed_deeds log [] all = refl
closed_deeds log (s ∷ ss) all = λ i. sym (at_close s.number s.front log (all 0 s (omega arith))) i ∷ closed_deeds log ss (λ k d low. all (suc k) d (omega arith)) i

-- and their counts are the lengths of these
pub closed_counts : (log : List Entry) (seats : List SeatState) → All (λ s. IsFront s.number s.front log) seats → map (λ s. length (done_by s)) seats ≡ map length (map (λ i. entries_of i log) (map (λ s. s.number) seats))
closed_counts log [] all = refl
closed_counts log (s ∷ ss) all = λ i. length (sym (at_close s.number s.front log (all 0 s (omega arith))) i) ∷ closed_counts log ss (λ k d low. all (suc k) d (omega arith)) i
