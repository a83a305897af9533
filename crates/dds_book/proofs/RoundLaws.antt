-- What the turns of a round come to.
use Rattle.std.proofs.Common.{◌≡◌, ℕ, ◌+◌, ◌<◌, ◌≤◌, Bool, true, false, cond, eqb, eq-eqb, Option, Some, None, List, [], ◌∷◌, ◌++◌, length, refl, sym, ap, ◌∙◌, subst, arith, length-append}
use Rattle.std.specs.Prelude.{MatchBool, Ok, Err}
use Rattle.std.proofs.lemmas.Bool.Decides.{nat_tests}
use Rattle.std.specs.Option.{option_or}
use Rattle.dds_base.specs.declared.events.Event.{Event}
use Rattle.dds_base.specs.declared.events.Fate.{Fate}
use Rattle.dds_base.specs.declared.events.Reply.{Reply}
use Rattle.dds_lists.specs.Lists.{Lists}
use Rattle.dds_book.specs.declared.entry.Entry.{Entry}
use Rattle.dds_book.specs.declared.fault.BookFault.TheVariants.{Closed}
use Rattle.dds_book.specs.declared.round.Pace.{Pace}
use Rattle.dds_book.specs.declared.round.Round.{Round}
use Rattle.dds_book.specs.declared.round.RoundEnd.{RoundEnd}
use Rattle.dds_book.specs.declared.round.RoundEnd.TheVariants.{Full, Quiet, GivesWay}
use Rattle.dds_book.specs.Journal.{AreCalls, IsCall, changes_in}
use Rattle.dds_book.specs.Round.{Answer, AreTurns, no_turn, one_more, Course, GivesCalls, IsRound, IsTurn, course_after, course_from, end_of, halt_after, is_excess, pace_after, quiet_turns, told_after}
use Rattle.dds_book.specs.Seat.{SeatState}
use Rattle.dds_book.specs.State.{BookContent, Pumped, PumpsOpen, due_at}

-- ── a round under way
-- the course of a round that no turn has ended
abbrev pub course_at : List (Event × Reply) → ℕ → BookContent → SeatState → Pace → Course
course_at told quiet book seat pace = record { told = told; quiet = quiet; halt = None; book = book; seat = seat; pace = pace }

-- what is known of it between two turns
pub record IsUnderway (plan : Lists) (fates : List Fate) (most : ℕ) (start : Course) (book : BookContent) (seat : SeatState) (pace : Pace) (entered quiet : ℕ) : Type 0 where
  pub told : List (Event × Reply)
  pub turns : AreTurns plan fates most start (course_at told quiet book seat pace)
  pub count : entered ≡ length told
  pub few : entered ≤ most
  pub calm : quiet ≤ quiet_turns

pub begins : (plan : Lists) (fates : List Fate) (most : ℕ) (book : BookContent) (seat : SeatState) (pace : Pace) → IsUnderway plan fates most (course_from book seat pace) book seat pace 0 0
begins plan fates most book seat pace = record { told = []; turns = no_turn; count = refl; few = omega arith; calm = omega arith }

-- it goes on as long as it may enter an event more and something may be due
goes_on : (most quiet : ℕ) (told : List (Event × Reply)) (book : BookContent) (seat : SeatState) (pace : Pace) → length told < most → quiet < quiet_turns
    → end_of most (course_at told quiet book seat pace) ≡ None
goes_on most quiet told book seat pace few calm =
    let a : eqb quiet quiet_turns ≡ false = grind (arith, nat_tests) in
    let b : eqb (length told) most ≡ false = grind (arith, nat_tests) in
    rw (a, b) refl

module _ (plan : Lists) (fates : List Fate) (most : ℕ) (old : BookContent) (before : SeatState) (from : Pace) (book : BookContent) (seat : SeatState) (pace : Pace) (entered quiet : ℕ)
    (on : IsUnderway plan fates most (course_from old before from) book seat pace entered quiet) where
  -- a turn more
  turned : entered < most → quiet < quiet_turns → (answer : Answer) (book' : BookContent) (seat' : SeatState) → IsTurn plan fates book book' seat seat' pace answer
      → AreTurns plan fates most (course_from old before from) (course_after (course_at on.told quiet book seat pace) answer book' seat')
  turned few calm answer book' seat' turn =
      let count = on.count in
      one_more (course_at on.told quiet book seat pace) answer book' seat' on.turns (goes_on most quiet on.told book seat pace (omega arith) calm) turn

  -- in which nothing was due
  pub idles : entered < most → quiet < quiet_turns → (book' : BookContent) (seat' : SeatState) (pace' : Pace) → IsTurn plan fates book book' seat seat' pace (Ok None)
      → pace' ≡ pace_after pace (Ok None) → IsUnderway plan fates most (course_from old before from) book' seat' pace' entered (quiet + 1)
  idles few calm book' seat' pace' turn is = record {
    told = on.told;
    turns = subst (λ (p : Pace). AreTurns plan fates most (course_from old before from) (course_at on.told (quiet + 1) book' seat' p)) (sym is) (turned few calm (Ok None) book' seat' turn);
    count = on.count;
    few = on.few;
    calm = omega arith;
  }

  -- in which an event was entered
  pub enters : entered < most → quiet < quiet_turns → (book' : BookContent) (seat' : SeatState) (pace' : Pace) (m : Event × Reply) → IsTurn plan fates book book' seat seat' pace (Ok (Some m))
      → pace' ≡ pace_after pace (Ok (Some m)) → is_excess pace' m.0 ≡ false → IsUnderway plan fates most (course_from old before from) book' seat' pace' (entered + 1) 0
  enters few calm book' seat' pace' m turn is fine = record {
    told = on.told ++ m ∷ [];
    turns = subst (λ (p : Pace). AreTurns plan fates most (course_from old before from) (course_at (on.told ++ m ∷ []) 0 book' seat' p)) (sym is)
        (subst (λ (h : Option RoundEnd). AreTurns plan fates most (course_from old before from) (record { told = on.told ++ m ∷ []; quiet = 0; halt = h; book = book'; seat = seat'; pace = pace_after pace (Ok (Some m)) }))
        (ap (λ b. cond b (Some GivesWay) None) (ap (λ (p : Pace). is_excess p m.0) (sym is) ∙ fine)) (turned few calm (Ok (Some m)) book' seat' turn));
    count = ap (λ n. n + 1) on.count ∙ sym (length-append on.told (m ∷ []));
    few = omega arith;
    calm = omega arith;
  }

  -- which ends the round
  pub halts : entered < most → quiet < quiet_turns → (book' : BookContent) (seat' : SeatState) (pace' : Pace) (answer : Answer) (end : RoundEnd) (r : Round) → IsTurn plan fates book book' seat seat' pace answer
      → pace' ≡ pace_after pace answer → halt_after pace' answer ≡ Some end → r.end ≡ end → r.changes ≡ changes_in book'.entries → r.entered ≡ length (told_after on.told answer)
      → IsRound plan fates most old book' before seat' from pace' r
  halts few calm book' seat' pace' answer end r turn is halt ends changes told = record {
    course = course_after (course_at on.told quiet book seat pace) answer book' seat';
    turns = turned few calm answer book' seat' turn;
    end = let same : halt_after (pace_after pace answer) answer ≡ Some r.end = ap (λ (p : Pace). halt_after p answer) (sym is) ∙ halt ∙ ap Some (sym ends) in rw same refl;
    book = refl;
    seat = refl;
    pace = is;
    entered = told;
    changes = changes;
  }

  -- a round that no turn ends has come to its end
  pub ends : (end : RoundEnd) (r : Round) → end_of most (course_at on.told quiet book seat pace) ≡ Some end → r.end ≡ end → r.changes ≡ changes_in book.entries → r.entered ≡ entered
      → IsRound plan fates most old book before seat from pace r
  ends end r over is changes told = record {
    course = course_at on.told quiet book seat pace;
    turns = on.turns;
    end = over ∙ ap Some (sym is);
    book = refl;
    seat = refl;
    pace = refl;
    entered = told ∙ on.count;
    changes = changes;
  }

  -- with as many events as it may enter
  pub is_full : quiet < quiet_turns → most ≤ entered → end_of most (course_at on.told quiet book seat pace) ≡ Some Full
  is_full calm full =
      let count = on.count in
      let few = on.few in
      let a : eqb quiet quiet_turns ≡ false = grind (arith, nat_tests) in
      let b : eqb (length on.told) most ≡ true = eq-eqb (length on.told) most (omega arith) in
      rw (a, b) refl

  -- or with nothing to do
  pub is_quiet : quiet_turns ≤ quiet → end_of most (course_at on.told quiet book seat pace) ≡ Some Quiet
  is_quiet calm =
      let most_quiet = on.calm in
      let a : eqb quiet quiet_turns ≡ true = eq-eqb quiet quiet_turns (omega arith) in
      rw a refl

-- ── what a round gives its seat
-- a call more at the end
calls_push : (plan : Lists) (seat : ℕ) (told : List (Event × Reply)) (old now new : List Entry) (m : Event × Reply) → AreCalls plan seat old now told → IsCall plan seat now new m.0 m.1
    → AreCalls plan seat old new (told ++ m ∷ [])
calls_push plan seat [] old now new m calls call = (new, subst (λ (f : List Entry). IsCall plan seat f new m.0 m.1) calls call, refl)
calls_push plan seat (x ∷ xs) old now new m calls call = (calls.0, calls.1, calls_push plan seat xs calls.0 now new m calls.2 call)

-- the calls of a seat's turns up to here, and its number
pub record IsServed (plan : Lists) (before : SeatState) (c : Course) : Type 0 where
  pub number : c.seat.number ≡ before.number
  pub calls : AreCalls plan before.number before.front c.seat.front c.told

-- one pump more
served : (plan : Lists) (before : SeatState) (c : Course) (book : BookContent) (seat : SeatState) (event : Option Event) (answer : Answer) → IsServed plan before c
    → Pumped plan c.book book c.seat seat event answer → IsServed plan before (course_after c answer book seat)
served plan before c book seat event answer was pumped = go c.book.closed event answer pumped
  where
    stays : (answer : Answer) → seat ≡ c.seat → told_after c.told answer ≡ c.told → IsServed plan before (course_after c answer book seat)
    stays answer is told = record {
      number = ap (λ (s : SeatState). s.number) is ∙ was.number;
      calls = subst (λ (l : List (Event × Reply)). AreCalls plan before.number before.front seat.front l) (sym told) (subst (λ (s : SeatState). AreCalls plan before.number before.front s.front c.told) (sym is) was.calls);
    }

    go : (closed : Bool) (event : Option Event) (answer : Answer) → MatchBool closed ((answer ≡ Err Closed) × (book ≡ c.book) × (seat ≡ c.seat)) (PumpsOpen plan c.book book c.seat seat event answer)
        → IsServed plan before (course_after c answer book seat)
    go true event (Err f) h = stays (Err f) h.2 refl
    go true event (Ok None) h = stays (Ok None) h.2 refl
    go true event (Ok (Some m)) h = absurd (let no = h.0 in cc)
    go false None (Err f) h = stays (Err f) h.2 refl
    go false None (Ok None) h = stays (Ok None) h.2 refl
    go false None (Ok (Some m)) h = absurd (let no = h.0 in cc)
    go false (Some e) (Err f) h = stays (Err f) h.seat refl
    go false (Some e) (Ok None) h = absurd h
    go false (Some e) (Ok (Some m)) h = record {
      number = ap (λ (s : SeatState). s.number) h.1.seat ∙ was.number;
      calls = calls_push plan before.number c.told before.front c.seat.front seat.front m was.calls
          (subst (λ (n : ℕ). IsCall plan n c.seat.front seat.front m.0 m.1) was.number (subst (λ (x : Event). IsCall plan c.seat.number c.seat.front seat.front x m.1) (sym h.0) h.1.call));
    }

-- all turns of a round
serves : (plan : Lists) (fates : List Fate) (most : ℕ) (start : Course) (c : Course) (before : SeatState) → IsServed plan before start → AreTurns plan fates most start c → IsServed plan before c
serves plan fates most start c before was no_turn = was
serves plan fates most start c before was (one_more at answer book seat turns goes turn) =
    served plan before at book seat (due_at plan at.book.entries at.seat.number at.pace.turn turn.fate) answer (serves plan fates most start at before was turns) turn.pumped

-- so the seat's number stays
pub same_number : (plan : Lists) (fates : List Fate) (most : ℕ) (old : BookContent) (before : SeatState) (from : Pace) (book : BookContent) (seat : SeatState) (pace : Pace) (entered quiet : ℕ)
    → IsUnderway plan fates most (course_from old before from) book seat pace entered quiet → seat.number ≡ before.number
same_number plan fates most old before from book seat pace entered quiet on =
    (serves plan fates most (course_from old before from) (course_at on.told quiet book seat pace) before (record { number = refl; calls = refl }) on.turns).number

-- a round that goes on may enter an event more
has_room : (most told : ℕ) (halt : Option RoundEnd) (quiet full : Bool) → full ≡ eqb told most → told ≤ most → option_or halt (cond quiet (Some Quiet) (cond full (Some Full) None)) ≡ None → told < most
has_room most told (Some end) quiet full is low goes = absurd (cc)
has_room most told None true full is low goes = absurd (cc)
has_room most told None false true is low goes = absurd (cc)
has_room most told None false false is low goes = let apart : eqb told most ≡ false = sym is in grind (arith, nat_tests)

-- so it enters no more than it may
few_after : (most : ℕ) (told : List (Event × Reply)) (answer : Answer) → length told < most → length (told_after told answer) ≤ most
few_after most told (Ok None) low = omega arith
few_after most told (Err f) low = omega arith
few_after most told (Ok (Some m)) low = omega (arith, length-append told (m ∷ []))

few : (plan : Lists) (fates : List Fate) (most : ℕ) (start : Course) (c : Course) → length start.told ≤ most → AreTurns plan fates most start c → length c.told ≤ most
few plan fates most start c low no_turn = low
few plan fates most start c low (one_more at answer book seat turns goes turn) =
    few_after most at.told answer (has_room most (length at.told) at.halt (eqb at.quiet quiet_turns) (eqb (length at.told) most) refl (few plan fates most start at low turns) goes)

-- ── what a round gives its seat, whole
module _ (plan : Lists) (fates : List Fate) (most : ℕ) (old new : BookContent) (before after : SeatState) (from to : Pace) (r : Round)
    (round : IsRound plan fates most old new before after from to r) where
  is_served : IsServed plan before round.course
  is_served = serves plan fates most (course_from old before from) round.course before (record { number = refl; calls = refl }) round.turns

  pub round_number : after.number ≡ before.number
  round_number = ap (λ (s : SeatState). s.number) round.seat ∙ is_served.number

  pub round_calls : GivesCalls plan before after r.entered
  round_calls = record {
    told = round.course.told;
    calls = subst (λ (s : SeatState). AreCalls plan before.number before.front s.front round.course.told) (sym round.seat) is_served.calls;
    count = round.entered;
  }

  pub round_few : r.entered ≤ most
  round_few = let low = few plan fates most (course_from old before from) round.course (omega arith) round.turns in let count = round.entered in omega arith

-- no calls leave the front
no_calls : (plan : Lists) (seat : ℕ) (told : List (Event × Reply)) (old new : List Entry) → length told ≡ 0 → AreCalls plan seat old new told → new ≡ old
no_calls plan seat [] old new none calls = calls
no_calls plan seat (x ∷ xs) old new none calls = absurd (omega arith)

-- without an event the seat is what it was
pub seat_rests : (plan : Lists) (before after : SeatState) (entered : ℕ) → after.number ≡ before.number → GivesCalls plan before after entered → entered ≡ 0 → after ≡ before
seat_rests plan before after entered number given none =
    let front = no_calls plan before.number given.told before.front after.front (sym given.count ∙ none) given.calls in
    λ i. record { number = number i; front = front i }
