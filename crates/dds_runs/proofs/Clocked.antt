-- A worked run with times, which keeps the premises of its clocks: they can be met.
use Rattle.std.proofs.Common.{◌≡◌, ℕ, zero, suc, ◌+◌, ◌≤◌, ◌<◌, ◌/◌, Bool, true, false, cond, eqb, leb, ◌&&◌, List, [], ◌∷◌, ◌++◌, Option, Some, None, refl, sym, ap, ◌∙◌, subst, arith, inl, inr}
use Rattle.std.specs.Prelude.{◌⊎◌}
use Rattle.std.proofs.lemmas.Bool.{and_parts, eqb-true, lt-leb}
use Rattle.std.proofs.lemmas.Option.{none-some, same_Some}
use Rattle.dds_base.specs.Sums.{least, total, any_below}
use Rattle.dds_base.specs.Counts.{count_between, count_from}
use Rattle.dds_base.specs.Sets.{flags_of}
use Rattle.dds_base.specs.declared.events.Event.TheVariants.{Write, Take, SendData, Deliver}
use Rattle.dds_base.specs.declared.events.Reply.TheVariants.{Written, Took, Sent, Arrived}
use Rattle.dds_base.specs.declared.sample.Arrival.TheVariants.{New}
use Rattle.dds_match.specs.Network.{Network}
use Rattle.dds_runs.specs.World.{opening, has_number, base}
use Rattle.dds_runs.specs.Runs.{IsWideRun, IsRunFrom, replay}
use Rattle.dds_runs.specs.Runs.Move.{Do}
use Rattle.dds_runs.specs.Timed.{Timed, untimed, Clocks, is_write, count_since, Awaits, WroteAt, KeepsClocks, uncapped}
use Rattle.dds_runs.proofs.OrderChanges.{append_assoc, append_nil}
use Rattle.dds_runs.proofs.Vectors.{at_least, sample, small}

-- the network, in which nothing keeps the writer from a write but nine permits
abbrev by_clock : Network
by_clock = uncapped (small 9 1 None)

-- a write each 10 ns at most, which the reader takes within 15 ns: two are under way at most
abbrev each_ten : Clocks
each_ten = record { most = λ w k span. Some (1 + span / 10); within = λ r. Some 15; available = λ r. None }

-- three writes, as often as the pace allows. The first sample is taken before the third is written
abbrev first_write : Timed
first_write = record { at = 0; move = Do (Write 0 0 (7 ∷ [])); reply = Written 1 }

abbrev second_write : Timed
second_write = record { at = 10; move = Do (Write 0 0 (8 ∷ [])); reply = Written 2 }

abbrev a_send : Timed
a_send = record { at = 10; move = Do (SendData 0 0 1); reply = Sent (Some 0) }

abbrev a_delivery : Timed
a_delivery = record { at = 12; move = Do (Deliver 0 false); reply = Arrived New }

abbrev a_take : Timed
a_take = record { at = 15; move = Do (Take 0 0); reply = Took (sample 1 (7 ∷ [])) }

abbrev third_write : Timed
third_write = record { at = 20; move = Do (Write 0 0 (9 ∷ [])); reply = Written 3 }

abbrev run_clocked : List Timed
run_clocked = first_write ∷ second_write ∷ a_send ∷ a_delivery ∷ a_take ∷ third_write ∷ []

clocked : IsWideRun by_clock (untimed run_clocked)
unfolding least total any_below count_between count_from flags_of IsRunFrom
clocked = (refl, (refl, (refl, (refl, ((sample 1 (7 ∷ []), record { among = inl refl; least = λ t i w. at_least 1 (sample 1 (7 ∷ []) ∷ []) refl t i }, refl), (refl, tt))))))

-- ── moves, each with those before it
abbrev Each : (List Timed → Timed → Type 0) → List Timed → List Timed → Type 0
Each P before [] = Unit {0}
Each P before (m ∷ ms) = P before m × Each P (before ++ m ∷ []) ms

each_at : (P : List Timed → Timed → Type 0) (before past : List Timed) (m : Timed) (later : List Timed) → Each P past (before ++ m ∷ later) → P (past ++ before) m
each_at P [] past m later each = subst (λ ms. P ms m) (sym (append_nil past)) each.0
each_at P (x ∷ xs) past m later each = subst (λ ms. P ms m) (append_assoc past (x ∷ []) xs) (each_at P xs (past ++ x ∷ []) m later each.1)

each_move : (P : List Timed → Timed → Type 0) (ts : List Timed) → Each P [] ts → (before : List Timed) (m : Timed) (later : List Timed) → ts ≡ before ++ m ∷ later → P before m
each_move P ts each before m later at = each_at P before [] m later (subst (Each P []) at each)

-- ── the only writer, reader and key
only : (P : ℕ → ℕ → ℕ → Type 0) → P 0 0 0 → (w r k : ℕ) → Awaits by_clock w r k → P w r k
only P here w r k awaits =
    let pair = and_parts (eqb w 0) (eqb r 0) awaits.0 in
    let heard = and_parts (eqb r 0) (eqb k 0) awaits.2 in
    subst (λ x. P x r k) (sym (eqb-true w 0 pair.0)) (subst (λ y. P 0 y k) (sym (eqb-true r 0 pair.1)) (subst (λ z. P 0 0 z) (sym (eqb-true k 0 heard.1)) here))

-- ── the premises at a move
-- it is no write before which two samples were written within 15 ns
abbrev IsPaced : List Timed → Timed → Type 0
IsPaced before m = (since : ℕ) → is_write 0 0 m.move m.reply ≡ true → m.at ≤ since + 15 → count_since 0 0 since before < 2

-- what was written more than 15 ns before it is taken
abbrev IsTaken : List Timed → Timed → Type 0
IsTaken before m = (n t : ℕ) → WroteAt before (replay by_clock opening (untimed before)) 0 0 n t → t + 15 < m.at → has_number ((replay by_clock opening (untimed before)).taken 0) 0 n ≡ true

one_count : (b : Bool) → cond b 1 0 ≤ 1
one_count true = omega arith
one_count false = omega arith

after_one : (since : ℕ) → count_since 0 0 since (first_write ∷ []) < 2
after_one since = let one = one_count (leb since 0) in omega arith

after_two : (since : ℕ) → 5 ≤ since → count_since 0 0 since (first_write ∷ second_write ∷ a_send ∷ a_delivery ∷ a_take ∷ []) < 2
after_two since late =
    let none : leb since 0 ≡ false = lt-leb since 0 (omega arith) in
    let one = one_count (leb since 10) in
    rw none (omega arith)

paced : Each IsPaced [] run_clocked
paced = (λ since w h. omega arith, (λ since w h. after_one since, (λ since w h. absurd cc, (λ since w h. absurd cc, (λ since w h. absurd cc, (λ since w h. after_two since (omega arith), tt))))))

last_taken : IsTaken (first_write ∷ second_write ∷ a_send ∷ a_delivery ∷ a_take ∷ []) third_write
unfolding least total any_below count_between count_from flags_of replay
last_taken zero t wrote late = absurd (none-some t wrote.1)
last_taken (suc zero) t wrote late = refl
last_taken (suc (suc zero)) t wrote late = absurd (let same : 10 ≡ t = same_Some 10 t wrote.1 in omega arith)
last_taken (suc (suc (suc n))) t wrote late = absurd (none-some t wrote.1)

taken : Each IsTaken [] run_clocked
taken = (λ n t w late. absurd (omega arith), (λ n t w late. absurd (omega arith), (λ n t w late. absurd (omega arith), (λ n t w late. absurd (omega arith), (λ n t w late. absurd (omega arith), (last_taken, tt))))))

keeps_clocks : KeepsClocks by_clock each_ten run_clocked
keeps_clocks = record {
  rises = (omega arith, (omega arith, (omega arith, (omega arith, (omega arith, (omega arith, tt))))));
  paces = λ before m later at w r k span n since awaits spans most writes within.
      let here = each_move IsPaced run_clocked paced before m later at in
      only (λ x y z. is_write x z m.move m.reply ≡ true → count_since x z since before < n) (λ h. let few = here since h (in_span m.at since span spans within) in let all = in_pace span n spans most in omega arith) w r k awaits writes;
  takes = λ before m later at w r k span n t awaits spans wrote late.
      let here = each_move IsTaken run_clocked taken before m later at in
      let same : 15 ≡ span = same_Some 15 span spans in
      only (λ x y z. WroteAt before (replay by_clock opening (untimed before)) x z n t → has_number ((replay by_clock opening (untimed before)).taken y) x n ≡ true) (λ h. here n t h (omega arith)) w r k awaits wrote;
  arrives = λ before m later at w r k span n t awaits spans wrote late. absurd (none-some span spans);
}
  where
    span_is : (span : ℕ) → (Some 15 ≡ Some span) ⊎ (◌≡◌ {A = Option ℕ} None (Some span)) → 15 ≡ span
    span_is span (inl h) = same_Some 15 span h
    span_is span (inr h) = absurd (none-some span h)

    in_span : (at since span : ℕ) → (Some 15 ≡ Some span) ⊎ (◌≡◌ {A = Option ℕ} None (Some span)) → at ≤ since + span → at ≤ since + 15
    in_span at since span spans within = let same = span_is span spans in omega arith

    in_pace : (span n : ℕ) → (Some 15 ≡ Some span) ⊎ (◌≡◌ {A = Option ℕ} None (Some span)) → Some (1 + span / 10) ≡ Some n → n ≡ 2
    in_pace span n spans most = let same = span_is span spans in let all : 1 + span / 10 ≡ n = same_Some (1 + span / 10) n most in omega arith
