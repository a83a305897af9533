-- What the list of a writer brings is what the rules bring.
use Rattle.std.proofs.Common.{◌≡◌, ℕ, zero, suc, ◌+◌, ◌*◌, ◌<◌, ◌≤◌, Bool, true, false, cond, ◌&&◌, ◌||◌, not, List, [], ◌∷◌, ◌++◌, All, filter, map, length, Option, Some, None, refl, sym, ◌∙◌, ap, arith, append-nil, append_assoc, length-append, subst}
use Rattle.std.specs.Prelude.{◌==◌, flat_map, is_none, slice_get, option_and_then}
use Rattle.std.specs.List.{list_any, range_with_len}
use Rattle.std.specs.Option.{option_map_or}
use Rattle.std.proofs.lemmas.Grind.{flat_map-append}
use Rattle.std.proofs.lemmas.List.{length-map}
use Rattle.std.proofs.lemmas.List.Elements.{All-append, All-map, filter-append}
use Rattle.std.proofs.lemmas.List.Filters.{length-filter_both}
use Rattle.std.proofs.lemmas.List.Folds.{list_any-append}
use Rattle.std.proofs.lemmas.Bool.{eqb-true, false_from_ne_true}
use Rattle.std.proofs.lemmas.Option.{unwrap_or-slice_get}
use Rattle.dds_base.proofs.Bools.{and_false}
use Rattle.dds_base.proofs.Ranges.{range_push}
use Rattle.dds_base.specs.Sums.{any_below, total}
use Rattle.dds_base.specs.declared.portion.Portion.{Portion}
use Rattle.dds_lists.specs.Lists.{Rule, Lists}
use Rattle.dds_lists.specs.WellFormed.{IsConsistent, IsPace, IsRuleOf, IsWellFormed, IsWriteOf}
use Rattle.dds_lists.specs.declared.lists.Pace.{Pace}
use Rattle.dds_match.specs.Network.{is_named, named}
use Rattle.dds_match.specs.Paces.{brings, counted, in_flight, is_awaited, is_paced, is_unpaced, most_within, turns}
use Rattle.dds_match.specs.Sums.{add_both, sum_of}
use Rattle.dds_match.specs.Words.{no_rule, rule_of}
use Rattle.dds_match.specs.Writes.{AreWrites, are_paced, brought, most_brought, most_in_flight, rule_writes_at, writes_at}
use Rattle.dds_match.specs.declared.writes.PacedWrite.{PacedWrite}
use Rattle.dds_match.proofs.Known.{all_tail, written_known}
use Rattle.dds_match.proofs.Marking.{rule_at}
use Rattle.dds_match.proofs.Sums.{add_lacking, sum_append}

-- ── one rule
-- a portion of a rule with this pace
abbrev pub paced : Option Pace → Portion ℕ → PacedWrite
paced pace e = record { key = e.key; count = e.count; pace = pace }

-- the portions at the writer
abbrev pub portions_at : Option Pace → ℕ → List (Portion ℕ) → List PacedWrite
portions_at pace w es = map (paced pace) (filter (λ (e : Portion ℕ). e.endpoint == w) es)

-- those of them of the key
abbrev of_key : ℕ → List PacedWrite → List PacedWrite
of_key k xs = filter (λ (x : PacedWrite). x.key == k) xs

named_next : (span k w : ℕ) (p : Pace) (e : Portion ℕ) (es : List (Portion ℕ)) (a b : Bool) → (e.endpoint == w) ≡ a → (e.key == k) ≡ b
    → sum_of (brought span) (of_key k (portions_at (Some p) w es)) ≡ Some (named es w k * turns p span)
    → sum_of (brought span) (of_key k (portions_at (Some p) w (e ∷ es))) ≡ Some (named (e ∷ es) w k * turns p span)
named_next span k w p e es true true at of before = rw (at, of, before) (ap Some (grind arith))
named_next span k w p e es true false at of before = rw (at, of) (before ∙ ap Some (grind arith))
named_next span k w p e es false b at of before = rw at (before ∙ ap Some (grind arith))

brought_paced : (span k w : ℕ) (p : Pace) (es : List (Portion ℕ)) → sum_of (brought span) (of_key k (portions_at (Some p) w es)) ≡ Some (named es w k * turns p span)
brought_paced span k w p [] = ap Some (omega arith)
brought_paced span k w p (e ∷ es) = named_next span k w p e es (e.endpoint == w) (e.key == k) refl refl (brought_paced span k w p es)

lacked_next : (span k w : ℕ) (e : Portion ℕ) (es : List (Portion ℕ)) (a b : Bool) → (e.endpoint == w) ≡ a → (e.key == k) ≡ b
    → sum_of (brought span) (of_key k (portions_at None w es)) ≡ cond (is_named es w k) None (Some 0)
    → sum_of (brought span) (of_key k (portions_at None w (e ∷ es))) ≡ cond (is_named (e ∷ es) w k) None (Some 0)
lacked_next span k w e es true true at of before = rw (at, of) refl
lacked_next span k w e es true false at of before = rw (at, of) before
lacked_next span k w e es false b at of before = rw at before

brought_unpaced : (span k w : ℕ) (es : List (Portion ℕ)) → sum_of (brought span) (of_key k (portions_at None w es)) ≡ cond (is_named es w k) None (Some 0)
brought_unpaced span k w [] = refl
brought_unpaced span k w (e ∷ es) = lacked_next span k w e es (e.endpoint == w) (e.key == k) refl refl (brought_unpaced span k w es)

lacks_sum : (b : Bool) (n : ℕ) → cond b None (Some 0) ≡ cond (b && true) None (Some (n * 0))
lacks_sum true n = refl
lacks_sum false n = ap Some (omega arith)

rule_brings : (span k w : ℕ) (pace : Option Pace) (es : List (Portion ℕ))
    → sum_of (brought span) (of_key k (portions_at pace w es)) ≡ cond (is_named es w k && is_none pace) None (Some (named es w k * option_map_or (λ p. turns p span) pace 0))
rule_brings span k w None es = brought_unpaced span k w es ∙ lacks_sum (is_named es w k) (named es w k)
rule_brings span k w (Some p) es = rw (and_false (is_named es w k)) (brought_paced span k w p es)

unpaced_next : (k w : ℕ) (pace : Option Pace) (e : Portion ℕ) (es : List (Portion ℕ)) (a b c : Bool) → (e.endpoint == w) ≡ a → (e.key == k) ≡ b → is_none pace ≡ c
    → list_any (λ x. (x.key == k) && is_none x.pace) (portions_at pace w es) ≡ (is_named es w k && is_none pace)
    → list_any (λ x. (x.key == k) && is_none x.pace) (portions_at pace w (e ∷ es)) ≡ (is_named (e ∷ es) w k && is_none pace)
unpaced_next k w pace e es true true true at of none before = rw (at, of, none) refl
unpaced_next k w pace e es true true false at of none before = rw (at, of, none) (rw none at before ∙ and_false (is_named es w k))
unpaced_next k w pace e es true false c at of none before = rw (at, of) before
unpaced_next k w pace e es false b c at of none before = rw at before

rule_unpaced : (k w : ℕ) (pace : Option Pace) (es : List (Portion ℕ)) → list_any (λ x. (x.key == k) && is_none x.pace) (portions_at pace w es) ≡ (is_named es w k && is_none pace)
rule_unpaced k w pace [] = refl
rule_unpaced k w pace (e ∷ es) = unpaced_next k w pace e es (e.endpoint == w) (e.key == k) (is_none pace) refl refl refl (rule_unpaced k w pace es)

-- ── all rules
-- what the rules below a number write at the writer
abbrev pub writes_below : Lists → ℕ → ℕ → List PacedWrite
writes_below d w n = flat_map (λ u. rule_writes_at w (rule_of d u)) (range_with_len 0 n)

next_rule : (f : ℕ → List PacedWrite) (n : ℕ) → flat_map f (range_with_len 0 (n + 1)) ≡ flat_map f (range_with_len 0 n) ++ f n
next_rule f n = ap (flat_map f) (range_push n) ∙ flat_map-append f (range_with_len 0 n) (n ∷ []) ∙ ap (λ xs. flat_map f (range_with_len 0 n) ++ xs) (append-nil (f n))

sum_rules : (span k : ℕ) (f : ℕ → List PacedWrite) (l : ℕ → Bool) (h : ℕ → ℕ) (n : ℕ) → ((u : ℕ) → sum_of (brought span) (of_key k (f u)) ≡ cond (l u) None (Some (h u)))
    → sum_of (brought span) (of_key k (flat_map f (range_with_len 0 n))) ≡ cond (any_below n l) None (Some (total n h))
unfolding any_below total
sum_rules span k f l h zero each = refl
sum_rules span k f l h (suc n) each =
    let next : suc n ≡ n + 1 = omega arith in
    ap (λ m. sum_of (brought span) (of_key k (flat_map f (range_with_len 0 m)))) next
    ∙ ap (λ xs. sum_of (brought span) (of_key k xs)) (next_rule f n)
    ∙ ap (sum_of (brought span)) (filter-append (λ (x : PacedWrite). x.key == k) (flat_map f (range_with_len 0 n)) (f n))
    ∙ sum_append (brought span) (of_key k (flat_map f (range_with_len 0 n))) (of_key k (f n))
    ∙ ap (λ o. add_both o (sum_of (brought span) (of_key k (f n)))) (sum_rules span k f l h n each)
    ∙ ap (add_both (cond (any_below n l) None (Some (total n h)))) (each n)
    ∙ add_lacking (any_below n l) (l n) (total n h) (h n)

or_comm : (x y : Bool) → (x || y) ≡ (y || x)
or_comm true true = refl
or_comm true false = refl
or_comm false true = refl
or_comm false false = refl

any_rules : (p : PacedWrite → Bool) (f : ℕ → List PacedWrite) (l : ℕ → Bool) (n : ℕ) → ((u : ℕ) → list_any p (f u) ≡ l u) → list_any p (flat_map f (range_with_len 0 n)) ≡ any_below n l
unfolding any_below
any_rules p f l zero each = refl
any_rules p f l (suc n) each =
    let next : suc n ≡ n + 1 = omega arith in
    ap (λ m. list_any p (flat_map f (range_with_len 0 m))) next
    ∙ ap (list_any p) (next_rule f n)
    ∙ list_any-append p (flat_map f (range_with_len 0 n)) (f n)
    ∙ ap (λ b. b || list_any p (f n)) (any_rules p f l n each)
    ∙ ap (λ b. any_below n l || b) (each n)
    ∙ or_comm (any_below n l) (l n)

pub are_paced_is : (d : Lists) (w k : ℕ) → are_paced (writes_at d w) k ≡ is_paced d w k
are_paced_is d w k = ap not (any_rules (λ x. (x.key == k) && is_none x.pace) (λ u. rule_writes_at w (rule_of d u)) (λ u. is_unpaced (rule_of d u) w k) (length d.rules.entries)
    (λ u. rule_unpaced k w (rule_of d u).pace (rule_of d u).writes))

turned : (b : Bool) (n : ℕ) → cond b None (Some n) ≡ cond (not b) (Some n) None
turned true n = refl
turned false n = refl

most_brought_is : (d : Lists) (w k span : ℕ) → most_brought (writes_at d w) k span ≡ most_within d w k span
most_brought_is d w k span =
    sum_rules span k (λ u. rule_writes_at w (rule_of d u)) (λ u. is_unpaced (rule_of d u) w k) (λ u. brings (rule_of d u) w k span) (length d.rules.entries)
    (λ u. rule_brings span k w (rule_of d u).pace (rule_of d u).writes)
    ∙ turned (any_below (length d.rules.entries) (λ u. is_unpaced (rule_of d u) w k)) (total (length d.rules.entries) (λ u. brings (rule_of d u) w k span))

most_in_flight_is : (d : Lists) (w k : ℕ) (span : Option ℕ) → most_in_flight (writes_at d w) k span ≡ option_and_then counted (option_and_then (most_within d w k) span)
most_in_flight_is d w k None = refl
most_in_flight_is d w k (Some n) = ap (option_and_then counted) (most_brought_is d w k n)

-- what a reader that awaits the key lacks at most
pub flies : (d : Lists) (w r k : ℕ) (span o : Option ℕ) → is_awaited d w r k ≡ true → o ≡ most_in_flight (writes_at d w) k span → o ≡ in_flight d w r k span
unfolding in_flight
flies d w r k span o waits most = rw waits (most ∙ most_in_flight_is d w k span)

pub flies_not : (d : Lists) (w r k : ℕ) (span : Option ℕ) → is_awaited d w r k ≡ false → None ≡ in_flight d w r k span
unfolding in_flight
flies_not d w r k span waits = rw waits refl

-- ── the lists of all writers
few_below : (f : ℕ → List PacedWrite) (n : ℕ) → ((u : ℕ) → u < n → length (f u) ≤ 16) → length (flat_map f (range_with_len 0 n)) ≤ n * 16
few_below f zero each = omega arith
few_below f (suc n) each =
    let next : suc n ≡ n + 1 = omega arith in
    let before = few_below f n (λ u below. each u (omega arith)) in
    let here = each n (omega arith) in
    let same = ap length (ap (λ m. flat_map f (range_with_len 0 m)) next ∙ next_rule f n) ∙ length-append (flat_map f (range_with_len 0 n)) (f n) in
    omega (arith, same, before, here)

all_below : (P : PacedWrite → Type 0) (f : ℕ → List PacedWrite) (n : ℕ) → ((u : ℕ) → u < n → All P (f u)) → All P (flat_map f (range_with_len 0 n))
all_below P f zero each = λ k x below. absurd (omega arith)
all_below P f (suc n) each =
    let next : suc n ≡ n + 1 = omega arith in
    subst (All P) (sym (ap (λ m. flat_map f (range_with_len 0 m)) next ∙ next_rule f n))
    (All-append P (flat_map f (range_with_len 0 n)) (f n) (all_below P f n (λ u below. each u (omega arith))) (each n (omega arith)))

none_at : (f : ℕ → List PacedWrite) (n : ℕ) → ((u : ℕ) → u < n → f u ≡ []) → flat_map f (range_with_len 0 n) ≡ []
none_at f zero each = refl
none_at f (suc n) each =
    let next : suc n ≡ n + 1 = omega arith in
    ap (λ m. flat_map f (range_with_len 0 m)) next ∙ next_rule f n
    ∙ ap (λ xs. xs ++ f n) (none_at f n (λ u below. each u (omega arith))) ∙ each n (omega arith)

-- a rule that is there has what all rules have
rule_has : (P : Rule → Type 0) (d : Lists) (u : ℕ) → All P d.rules.entries → u < length d.rules.entries → P (rule_of d u)
rule_has P d u all within = subst P (sym (unwrap_or-slice_get d.rules.entries u no_rule)) (all u no_rule within)

few_kept : (w : ℕ) (es : List (Portion ℕ)) → length (filter (λ (e : Portion ℕ). e.endpoint == w) es) ≤ length es
few_kept w es = omega (arith, length-filter_both (λ (e : Portion ℕ). e.endpoint == w) (λ (e : Portion ℕ). not (e.endpoint == w)) (λ x. refl) es)

few_of_rule : (d : Lists) (w : ℕ) (u : Rule) → IsRuleOf d u → length (rule_writes_at w u) ≤ 16
few_of_rule d w u rule =
    let kept = few_kept w u.writes in
    let same = length-map (filter (λ (e : Portion ℕ). e.endpoint == w) u.writes) (paced u.pace) in
    let few = rule.few_writes in
    omega (arith, kept, same, few)

periods_of_rule : (w : ℕ) (u : Rule) → ((p : Pace) → u.pace ≡ Some p → IsPace p) → All (λ (x : PacedWrite). (p : Pace) → x.pace ≡ Some p → 1 ≤ p.period) (rule_writes_at w u)
periods_of_rule w u is_pace = All-map (λ (x : PacedWrite). (p : Pace) → x.pace ≡ Some p → 1 ≤ p.period) (paced u.pace) (filter (λ (e : Portion ℕ). e.endpoint == w) u.writes)
    (λ i e below p there. (is_pace p there).some_period)

pub are_writes : (d : Lists) → IsWellFormed d → IsConsistent d → (w : ℕ) → AreWrites (writes_at d w)
are_writes d well consistent w =
    let rules = length d.rules.entries in
    let few = few_below (λ u. rule_writes_at w (rule_of d u)) rules (λ u within. few_of_rule d w (rule_of d u) (rule_has (IsRuleOf d) d u well.each_rule within)) in
    let most = well.rules.few in
    record {
      few = omega (arith, few, most);
      periods = all_below (λ (x : PacedWrite). (p : Pace) → x.pace ≡ Some p → 1 ≤ p.period) (λ u. rule_writes_at w (rule_of d u)) rules
          (λ u within. periods_of_rule w (rule_of d u) (rule_has (λ (x : Rule). (p : Pace) → x.pace ≡ Some p → IsPace p) d u consistent.paces within));
    }

nothing_at : (d : Lists) → IsWellFormed d → (w : ℕ) → length d.writers.entries ≤ w → (pace : Option Pace) (es : List (Portion ℕ)) → All (IsWriteOf d) es → portions_at pace w es ≡ []
nothing_at d well w past pace [] all = refl
nothing_at d well w past pace (e ∷ es) all =
    let known = written_known d well e.endpoint e.key (all 0 e (omega arith)) in
    let other : (e.endpoint == w) ≡ false = false_from_ne_true (e.endpoint == w) (λ same. let at = eqb-true e.endpoint w same in omega (arith, at, known.0)) in
    rw other (nothing_at d well w past pace es (all_tail (IsWriteOf d) e es all))

pub no_writer_writes : (d : Lists) → IsWellFormed d → (w : ℕ) → length d.writers.entries ≤ w → writes_at d w ≡ []
no_writer_writes d well w past = none_at (λ u. rule_writes_at w (rule_of d u)) (length d.rules.entries)
    (λ u within. nothing_at d well w past (rule_of d u).pace (rule_of d u).writes (rule_has (IsRuleOf d) d u well.each_rule within).writes)

-- ── the lists of the code
pub portion_more : (pace : Option Pace) (w : ℕ) (e : Portion ℕ) (es : List (Portion ℕ)) (old new whole : List PacedWrite) (b : Bool) → (e.endpoint == w) ≡ b → new ≡ old ++ cond b (paced pace e ∷ []) []
    → old ++ portions_at pace w (e ∷ es) ≡ whole → new ++ portions_at pace w es ≡ whole
portion_more pace w e es old new whole true at added before = ap (λ xs. xs ++ portions_at pace w es) added ∙ append_assoc old (paced pace e ∷ []) (portions_at pace w es) ∙ rw at at before
portion_more pace w e es old new whole false at added before = ap (λ xs. xs ++ portions_at pace w es) (added ∙ append-nil old) ∙ rw at at before

pub rule_more : (d : Lists) (w n : ℕ) (x : Rule) (old new : List PacedWrite) → slice_get d.rules.entries n ≡ Some x → old ≡ writes_below d w n → new ≡ old ++ rule_writes_at w x → new ≡ writes_below d w (n + 1)
rule_more d w n x old new at before added =
    added ∙ ap (λ xs. xs ++ rule_writes_at w x) before ∙ ap (λ (u : Rule). writes_below d w n ++ rule_writes_at w u) (sym (rule_at d n x at))
    ∙ sym (next_rule (λ u. rule_writes_at w (rule_of d u)) n)
