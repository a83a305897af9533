-- A journal that is one entry longer: where it leads to, and the fronts in it.
use Rattle.std.proofs.Common.{◌≡◌, ◌≢◌, ℕ, zero, suc, ◌+◌, ◌<◌, Bool, true, false, not, cond, eqb, eq-eqb, ne_eqb, List, [], ◌∷◌, ◌++◌, length, All, refl, sym, ap, ◌∙◌, arith, append_assoc, append-nil, length-append}
use Rattle.std.specs.List.{count_by}
use Rattle.std.proofs.lemmas.List.Elements.{All-append}
use Rattle.std.proofs.lemmas.List.Sums.{sum_by-append}
use Rattle.dds_lists.specs.Lists.{Lists}
use Rattle.dds_match.specs.Network.{Network}
use Rattle.dds_match.specs.Plan.{network_of}
use Rattle.dds_runs.specs.World.{World, opening}
use Rattle.dds_runs.specs.Steps.{Event, Reply, May, after}
use Rattle.dds_runs.specs.Runs.{IsRunFrom, as_moves, replay}
use Rattle.dds_domain.specs.Noted.{Noted, noted_after, noted_by, opening_notes}
use Rattle.dds_book.specs.declared.entry.Entry.{Entry}
use Rattle.dds_book.specs.Journal.{IsCall, IsFront, IsJournal, calls_by, changes_in, entry_of, is_refused, most_entries, notes_after, pairs_of, world_after}
use Rattle.dds_book.specs.Owning.{owns}

-- ── where it leads to
-- the world after one entry more
replay_push : (net : Network) (v : World) (es : List Entry) (e : Entry) → replay net v (as_moves (pairs_of (es ++ e ∷ []))) ≡ after net (replay net v (as_moves (pairs_of es))) e.event e.reply
unfolding replay
replay_push net v [] e = refl
replay_push net v (x ∷ xs) e = replay_push net (after net v x.event x.reply) xs e

-- the notes after one entry more
noted_push : (net : Network) (v : World) (noted : Noted) (es : List Entry) (e : Entry)
    → noted_by net v noted (pairs_of (es ++ e ∷ [])) ≡ noted_after net (replay net v (as_moves (pairs_of es))) (noted_by net v noted (pairs_of es)) e.event e.reply
unfolding noted_by replay
noted_push net v noted [] e = refl
noted_push net v noted (x ∷ xs) e = noted_push net (after net v x.event x.reply) (noted_after net v noted x.event x.reply) xs e

-- a run goes on with an entry whose reply may come
run_push : (net : Network) (v : World) (es : List Entry) (e : Entry) → IsRunFrom net v (as_moves (pairs_of es)) → May net (replay net v (as_moves (pairs_of es))) e.event e.reply
    → IsRunFrom net v (as_moves (pairs_of (es ++ e ∷ [])))
unfolding IsRunFrom replay
run_push net v [] e run may = (may, tt)
run_push net v (x ∷ xs) e run may = (run.0, run_push net (after net v x.event x.reply) xs e run.1 may)

pub world_push : (plan : Lists) (es : List Entry) (e : Entry) → world_after plan (es ++ e ∷ []) ≡ after (network_of plan) (world_after plan es) e.event e.reply
world_push plan es e = replay_push (network_of plan) opening es e

pub notes_push : (plan : Lists) (es : List Entry) (e : Entry) → notes_after plan (es ++ e ∷ []) ≡ noted_after (network_of plan) (world_after plan es) (notes_after plan es) e.event e.reply
notes_push plan es e = noted_push (network_of plan) opening opening_notes es e

-- before the first entry
pub world_first : (plan : Lists) → world_after plan [] ≡ opening
unfolding replay
world_first plan = refl

pub notes_first : (plan : Lists) → notes_after plan [] ≡ opening_notes
unfolding noted_by
notes_first plan = refl

-- ── journals
pub All_one : {X : Type 0} (P : X → Type 0) (x : X) → P x → All P (x ∷ [])
All_one P x p zero d low = p
All_one P x p (suc k) d low = absurd (omega arith)

-- no entries are a journal
pub journal_empty : (plan : Lists) → IsJournal plan []
unfolding IsRunFrom
journal_empty plan = record { few = omega arith; run = tt; own = λ k d low. absurd (omega arith) }

-- a journal goes on with an entry of its seat's own whose reply may come
pub journal_push : (plan : Lists) (es : List Entry) (e : Entry) → IsJournal plan es → length es < most_entries → owns plan e.seat e.event ≡ true → May (network_of plan) (world_after plan es) e.event e.reply
    → IsJournal plan (es ++ e ∷ [])
journal_push plan es e j room own may = record {
  few = omega (arith, length-append es (e ∷ []));
  run = run_push (network_of plan) opening es e j.run may;
  own = All-append (λ (x : Entry). owns plan x.seat x.event ≡ true) es (e ∷ []) j.own (All_one (λ (x : Entry). owns plan x.seat x.event ≡ true) e own);
}

-- ── counts
count_push : (p : Entry → Bool) (es : List Entry) (e : Entry) → count_by p (es ++ e ∷ []) ≡ count_by p es + cond (p e) 1 0
count_push p es e = let a = sum_by-append (λ x. cond (p x) 1 0) es (e ∷ []) in omega arith

-- an entry of the seat is one call more
calls_own : (seat : ℕ) (es : List Entry) (e : Entry) → e.seat ≡ seat → calls_by seat (es ++ e ∷ []) ≡ calls_by seat es + 1
calls_own seat es e is = count_push (λ x. eqb x.seat seat) es e ∙ ap (λ b. calls_by seat es + cond b 1 0) (eq-eqb e.seat seat is)

-- an entry of another seat is none
calls_other : (seat : ℕ) (es : List Entry) (e : Entry) → e.seat ≢ seat → calls_by seat (es ++ e ∷ []) ≡ calls_by seat es
calls_other seat es e apart = count_push (λ x. eqb x.seat seat) es e ∙ ap (λ b. calls_by seat es + cond b 1 0) (ne_eqb e.seat seat apart) ∙ omega arith

-- a change more, unless the reply is a refusal
abbrev pub one_unless : Bool → ℕ
one_unless b = cond b 0 1

turned : (b : Bool) → cond (not b) 1 0 ≡ one_unless b
turned true = refl
turned false = refl

pub changes_push : (es : List Entry) (e : Entry) → changes_in (es ++ e ∷ []) ≡ changes_in es + one_unless (is_refused e.reply)
changes_push es e = count_push (λ x. not (is_refused x.reply)) es e ∙ ap (λ n. changes_in es + n) (turned (is_refused e.reply))

-- ── fronts
-- a journal has as many calls of the seat as its front
front_calls : (seat : ℕ) (front es : List Entry) → IsFront seat front es → calls_by seat es ≡ calls_by seat front
front_calls seat front es f = let a = sum_by-append (λ (x : Entry). cond (eqb x.seat seat) 1 0) front f.later in let none = f.none in ap (calls_by seat) f.begins ∙ omega arith

-- all entries are a front
pub front_whole : (seat : ℕ) (es : List Entry) → IsFront seat es es
front_whole seat es = record { later = []; begins = sym (append-nil es); none = refl }

-- an entry of another seat leaves the front
pub front_more : (seat : ℕ) (front es : List Entry) (e : Entry) → e.seat ≢ seat → IsFront seat front es → IsFront seat front (es ++ e ∷ [])
front_more seat front es e apart f = record {
  later = f.later ++ e ∷ [];
  begins = ap (λ l. l ++ e ∷ []) f.begins ∙ append_assoc front f.later (e ∷ []);
  none = calls_other seat f.later e apart ∙ f.none;
}

-- with an entry of the seat, the journal has one call more than the front
pub one_more : (seat : ℕ) (front es now : List Entry) (e : Entry) → now ≡ es ++ e ∷ [] → e.seat ≡ seat → IsFront seat front es → calls_by seat now ≡ calls_by seat front + 1
one_more seat front es now e is own f = ap (calls_by seat) is ∙ calls_own seat es e own ∙ ap (λ n. n + 1) (front_calls seat front es f)

-- what the seat's new front is
pub is_call : (plan : Lists) (seat : ℕ) (front es now : List Entry) (event : Event) (reply : Reply) → now ≡ es ++ entry_of seat event reply ∷ [] → IsFront seat front es → IsJournal plan now
    → IsCall plan seat front now event reply
is_call plan seat front es now event reply is f j = record { journal = j; between = f.later; none = f.none; ends = is ∙ ap (λ l. l ++ entry_of seat event reply ∷ []) f.begins }
