-- The making of a gauge's seats: each is cut off from the maker's view, which keeps the rule of the counts.
use Rattle.std.proofs.Common.{◌≡◌, ◌≢◌, ◌⊎◌, ℕ, zero, suc, ◌+◌, ◌<◌, ◌≤◌, List, [], ◌∷◌, ◌++◌, length, map, get_or, set, ltb, true, false, Some, None, refl, sym, ap, ◌∙◌, subst, ⊎_elim, inl, inr, arith, length-set}
use Rattle.std.proofs.lemmas.List.FromFn.{map-range_with_len_more}
use Rattle.std.proofs.lemmas.Bool.Decides.{nat_tests}
use Rattle.std.specs.List.{range_with_len}
use mathlib.Core.Option.{some, some-injective, some-ne-none}
use lib.ListN.{get_elem?}
use Rattle.atomic_table.specs.Seated.{TableId}
use Rattle.atomic_table.specs.Table.{Splits}
use Rattle.dds_book.specs.declared.gauge.GaugeView.{GaugeView}
use Rattle.dds_book.specs.Gauge.{GaugeSeatState, IsGauge, Owns, fresh_seat, next_owner, only_reads, seat_of, seen_at, without_next}
use Rattle.dds_book.proofs.GaugeSteps.{set_cases}

-- ── places
-- a view at its place, after one view was cut in two: it is the left one, one that was there before, or the right one at the end
data Where (views : List GaugeView) (id : ℕ) (left right : GaugeView) (i : ℕ) (u : GaugeView) : Type 0 where
  is_left : i ≡ id → left ≡ u → Where views id left right i u
  is_old : i ≢ id → get_elem? views i ≡ some u → Where views id left right i u
  is_right : i ≡ length views → right ≡ u → Where views id left right i u

at_end : (views : List GaugeView) (x : GaugeView) (i : ℕ) (u : GaugeView) → get_elem? (views ++ x ∷ []) i ≡ some u → (get_elem? views i ≡ some u) ⊎ ((i ≡ length views) × (x ≡ u))
at_end [] x zero u e = inr (refl, some-injective x u e)
at_end [] x (suc i) u e = absurd (some-ne-none u (sym e))
at_end (y ∷ ys) x zero u e = inl e
at_end (y ∷ ys) x (suc i) u e = ⊎_elim (λ t. inl t) (λ t. inr (ap suc t.0, t.1)) (at_end ys x i u e)

where_is : (views : List GaugeView) (id : ℕ) (w x : GaugeView) (i : ℕ) (u : GaugeView) → get_elem? (set views id w ++ x ∷ []) i ≡ some u → Where views id w x i u
where_is views id w x i u e = ⊎_elim
    (λ (t : get_elem? (set views id w) i ≡ some u). set_cases views id w i u t (λ a b. is_left a b) (λ a b. is_old a b))
    (λ (t : (i ≡ length (set views id w)) × (x ≡ u)). is_right (t.0 ∙ length-set views id w) t.1)
    (at_end (set views id w) x i u e)

-- ── cuts
-- a view owns and has read no more than another, and has its count where it owns a word
record IsWithin (small large : GaugeView) : Type 0 where
  owned : (a : ℕ) → Owns small a → Owns large a
  same : (a : ℕ) → Owns small a → small.count ≡ large.count
  read : (a : ℕ) → seen_at small.seen a ≤ seen_at large.seen a

module _ (apps : ℕ) where
  -- a view may be cut in two that are within it and own no word together
  splits : (id : ℕ) (v w x : GaugeView) → IsWithin w v → IsWithin x v → ((a : ℕ) → Owns w a → ¬ Owns x a) → Splits (IsGauge apps) id v w x
  splits id v w x left right apart s r at = record {
    width = r.width;
    counts = λ i u a e own. counts_at i u a own (where_is s.views id w x i u e);
    apart = λ i j u t a e e' own own'. apart_at i j u t a own own' (where_is s.views id w x i u e) (where_is s.views id w x j t e');
    below = λ i u a e. below_at i u a (where_is s.views id w x i u e);
  }
    where
      of_left : (u : GaugeView) (a : ℕ) → w ≡ u → Owns u a → Owns w a
      of_left u a e own = subst (λ (z : GaugeView). Owns z a) (sym e) own

      of_right : (u : GaugeView) (a : ℕ) → x ≡ u → Owns u a → Owns x a
      of_right u a e own = subst (λ (z : GaugeView). Owns z a) (sym e) own

      counts_at : (i : ℕ) (u : GaugeView) (a : ℕ) → Owns u a → Where s.views id w x i u → get_or s.words a 0 ≡ u.count
      counts_at i u a own (is_left i_is u_is) = let own' = of_left u a u_is own in r.counts id v a at (left.owned a own') ∙ sym (left.same a own') ∙ ap (λ (z : GaugeView). z.count) u_is
      counts_at i u a own (is_old ne was) = r.counts i u a was own
      counts_at i u a own (is_right i_is u_is) = let own' = of_right u a u_is own in r.counts id v a at (right.owned a own') ∙ sym (right.same a own') ∙ ap (λ (z : GaugeView). z.count) u_is

      below_at : (i : ℕ) (u : GaugeView) (a : ℕ) → Where s.views id w x i u → seen_at u.seen a ≤ get_or s.words a 0
      below_at i u a (is_left i_is u_is) = let b = r.below id v a at in let l = left.read a in let e : seen_at w.seen a ≡ seen_at u.seen a = ap (λ (z : GaugeView). seen_at z.seen a) u_is in omega arith
      below_at i u a (is_old ne was) = r.below i u a was
      below_at i u a (is_right i_is u_is) = let b = r.below id v a at in let l = right.read a in let e : seen_at x.seen a ≡ seen_at u.seen a = ap (λ (z : GaugeView). seen_at z.seen a) u_is in omega arith

      apart_at : (i j : ℕ) (u t : GaugeView) (a : ℕ) → Owns u a → Owns t a → Where s.views id w x i u → Where s.views id w x j t → i ≡ j
      apart_at i j u t a own own' (is_left i_is u_is) (is_left j_is t_is) = i_is ∙ sym j_is
      apart_at i j u t a own own' (is_left i_is u_is) (is_old ne was) = absurd (ne (sym (r.apart id j v t a at was (left.owned a (of_left u a u_is own)) own')))
      apart_at i j u t a own own' (is_left i_is u_is) (is_right j_is t_is) = absurd (apart a (of_left u a u_is own) (of_right t a t_is own'))
      apart_at i j u t a own own' (is_old ne was) (is_left j_is t_is) = absurd (ne (r.apart i id u v a was at own (left.owned a (of_left t a t_is own'))))
      apart_at i j u t a own own' (is_old ne was) (is_old ne' was') = r.apart i j u t a was was' own own'
      apart_at i j u t a own own' (is_old ne was) (is_right j_is t_is) = absurd (ne (r.apart i id u v a was at own (right.owned a (of_right t a t_is own'))))
      apart_at i j u t a own own' (is_right i_is u_is) (is_left j_is t_is) = absurd (apart a (of_left t a t_is own') (of_right u a u_is own))
      apart_at i j u t a own own' (is_right i_is u_is) (is_old ne was) = absurd (ne (sym (r.apart id j v t a at was (right.owned a (of_right u a u_is own)) own')))
      apart_at i j u t a own own' (is_right i_is u_is) (is_right j_is t_is) = i_is ∙ sym j_is

  -- the maker gives the next word to an owner
  pub cuts_owner : (id : ℕ) (v : GaugeView) → v.from < v.to → Splits (IsGauge apps) id v (without_next v) (next_owner v)
  cuts_owner id v some_left = splits id v (without_next v) (next_owner v)
      (record { owned = λ a own. let o = own in (omega arith, omega arith); same = λ a own. refl; read = λ a. omega arith })
      (record { owned = λ a own. let o = own in (omega arith, omega arith); same = λ a own. refl; read = λ a. omega arith })
      (λ a own own'. let o = own in let p = own' in omega arith)

  -- the maker makes a seat that owns nothing
  pub cuts_monitor : (id : ℕ) (v : GaugeView) → Splits (IsGauge apps) id v v (only_reads v)
  cuts_monitor id v = splits id v v (only_reads v)
      (record { owned = λ a own. own; same = λ a own. refl; read = λ a. omega arith })
      (record { owned = λ a own. let o = own in absurd (omega arith); same = λ a own. let o = own in absurd (omega arith); read = λ a. omega arith })
      (λ a own own'. let o = own' in omega arith)

-- ── the seats
-- the seats of the owners come first
pub owner_first : (table : TableId) (apps k : ℕ) → k < apps → fresh_seat table apps k ≡ seat_of table (Some k)
owner_first table apps k low = let t : ltb k apps ≡ true = grind (arith, nat_tests) in rw t refl

-- and then those of the monitors
pub monitor_after : (table : TableId) (apps k : ℕ) → fresh_seat table apps (apps + k) ≡ seat_of table None
monitor_after table apps k = let t : ltb (apps + k) apps ≡ false = grind (arith, nat_tests) in rw t refl

-- one seat more
pub seats_more : (table : TableId) (apps k : ℕ) (seats : List GaugeSeatState) (s : GaugeSeatState) → seats ≡ map (fresh_seat table apps) (range_with_len 0 k) → s ≡ fresh_seat table apps k
    → seats ++ s ∷ [] ≡ map (fresh_seat table apps) (range_with_len 0 (k + 1))
seats_more table apps k seats s were is = (λ i. were i ++ is i ∷ []) ∙ sym (map-range_with_len_more (fresh_seat table apps) 0 k k (omega arith))
