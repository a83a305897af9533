-- The shorter the span in which a reader takes, the fewer samples it has yet to take.
use Rattle.std.proofs.Common.{◌≡◌, ℕ, zero, suc, ◌+◌, ◌*◌, ◌/◌, ◌<◌, ◌≤◌, Bool, true, false, List, [], ◌∷◌, length, nat_le, Option, Some, None, refl, sym, ap, ◌∙◌, subst, arith}
use Rattle.std.specs.Prelude.{if◌then◌else◌, option_and_then}
use Rattle.std.specs.Option.{option_map_or}
use Rattle.std.proofs.Math.Nat.{div-zero, div-mul-le_self}
use Rattle.std.proofs.lemmas.Bool.{leb-true, le-leb, false_from_ne_true, true≢false}
use Rattle.std.proofs.lemmas.Nat.{le-div, mul-le}
use Rattle.dds_base.specs.Sums.{total}
use Rattle.dds_base.proofs.SumLaws.{total_le}
use Rattle.dds_lists.specs.declared.lists.Pace.{Pace}
use Rattle.dds_lists.specs.Lists.{Lists, Rule}
use Rattle.dds_match.specs.Network.{matched_writers, named}
use Rattle.dds_match.specs.Paces.{brings, counted, in_flight, is_awaited, is_paced, most_within, turns}
use Rattle.dds_match.specs.Plan.{network_of}
use Rattle.dds_match.specs.Sums.{add_both, sum_of}
use Rattle.dds_match.specs.Words.{rule_of}
use Rattle.dds_sizing.specs.Spans.{is_kept, most_awaited}

-- the first is there where the second is, and no greater
abbrev IsNoMore : Option ℕ → Option ℕ → Type 0
IsNoMore o None = Unit {0}
IsNoMore None (Some m) = ⊥
IsNoMore (Some n) (Some m) = n ≤ m

-- ── what a rule brings
div_le : (m n p : ℕ) → m ≤ n → m / p ≤ n / p
div_le m n zero small = rw (div-zero m, div-zero n) (omega arith)
div_le m n (suc p) small =
    let whole = div-mul-le_self m (suc p) in
    le-div (m / suc p) n (suc p) (omega arith) (omega (arith, whole, small))

turns_le : (p : Pace) (s t : ℕ) → s ≤ t → turns p s ≤ turns p t
turns_le p s t small = let fewer = div_le (s + p.jitter) (t + p.jitter) p.period (omega arith) in omega (arith, fewer)

paced_le : (pace : Option Pace) (s t : ℕ) → s ≤ t → option_map_or (λ p. turns p s) pace 0 ≤ option_map_or (λ p. turns p t) pace 0
paced_le None s t small = omega arith
paced_le (Some p) s t small = turns_le p s t small

brings_le : (u : Rule) (w k s t : ℕ) → s ≤ t → brings u w k s ≤ brings u w k t
brings_le u w k s t small = mul-le (named u.writes w k) (option_map_or (λ p. turns p s) u.pace 0) (named u.writes w k) (option_map_or (λ p. turns p t) u.pace 0) (omega arith) (paced_le u.pace s t small)

-- ── what is in flight
if_less : (b : Bool) (o p : Option ℕ) → IsNoMore o p → IsNoMore (if b then o else None) (if b then p else None)
if_less true o p less = less
if_less false o p less = tt {0}

counted_less : (n m : ℕ) → n ≤ m → IsNoMore (counted n) (counted m)
counted_less n m small = go (nat_le m 4294967295) refl
  where
    go : (b : Bool) → nat_le m 4294967295 ≡ b → IsNoMore (counted n) (counted m)
    go true within = let few = leb-true m 4294967295 within in let also = le-leb n 4294967295 (omega (arith, few, small)) in rw (within, also) small
    go false beyond = rw beyond (tt {0})

within_less : (d : Lists) (w k s t : ℕ) → s ≤ t → IsNoMore (option_and_then counted (most_within d w k s)) (option_and_then counted (most_within d w k t))
within_less d w k s t small = go (is_paced d w k) refl
  where
    fewer : total (length d.rules.entries) (λ u. brings (rule_of d u) w k s) ≤ total (length d.rules.entries) (λ u. brings (rule_of d u) w k t)
    fewer = total_le (λ u. brings (rule_of d u) w k s) (λ u. brings (rule_of d u) w k t) (length d.rules.entries) (λ u below. brings_le (rule_of d u) w k s t small)

    go : (b : Bool) → is_paced d w k ≡ b → IsNoMore (option_and_then counted (most_within d w k s)) (option_and_then counted (most_within d w k t))
    go true paced = rw paced (counted_less _ _ fewer)
    go false paced = rw paced (tt {0})

flight_less : (d : Lists) (w r k s t : ℕ) → s ≤ t → IsNoMore (in_flight d w r k (Some s)) (in_flight d w r k (Some t))
unfolding in_flight
flight_less d w r k s t small = if_less (is_awaited d w r k) _ _ (within_less d w k s t small)

both_less : (o p q x : Option ℕ) → IsNoMore o q → IsNoMore p x → IsNoMore (add_both o p) (add_both q x)
both_less o p None x less also = tt {0}
both_less o p (Some n) None less also = go o p
  where
    go : (o p : Option ℕ) → IsNoMore (add_both o p) None
    go o p = tt {0}
both_less None p (Some n) (Some m) less also = absurd less
both_less (Some a) None (Some n) (Some m) less also = absurd also
both_less (Some a) (Some b) (Some n) (Some m) less also = omega (arith, less, also)

sum_less : (d : Lists) (r k s t : ℕ) → s ≤ t → (ws : List ℕ) → IsNoMore (sum_of (λ w. in_flight d w r k (Some s)) ws) (sum_of (λ w. in_flight d w r k (Some t)) ws)
sum_less d r k s t small [] = omega arith
sum_less d r k s t small (w ∷ ws) =
    both_less (in_flight d w r k (Some s)) (sum_of (λ w. in_flight d w r k (Some s)) ws) (in_flight d w r k (Some t)) (sum_of (λ w. in_flight d w r k (Some t)) ws)
    (flight_less d w r k s t small) (sum_less d r k s t small ws)

-- ── limits
kept_less : (limit : ℕ) (o p : Option ℕ) → IsNoMore o p → option_map_or (λ n. nat_le n limit) p false ≡ true → option_map_or (λ n. nat_le n limit) o false ≡ true
kept_less limit o None less kept = absurd (true≢false (sym kept))
kept_less limit None (Some m) less kept = absurd less
kept_less limit (Some n) (Some m) less kept = let few = leb-true m limit kept in le-leb n limit (omega (arith, few, less))

kept_shorter : (d : Lists) (r k limit s t : ℕ) → s ≤ t → is_kept d r k limit t ≡ true → is_kept d r k limit s ≡ true
kept_shorter d r k limit s t small = kept_less limit (most_awaited d r k s) (most_awaited d r k t) (sum_less d r k s t small (matched_writers (network_of d) r))

-- a limit that is broken with some span is broken with each longer one
pub broken_longer : (d : Lists) (r k limit s t : ℕ) → s ≤ t → is_kept d r k limit s ≡ false → is_kept d r k limit t ≡ false
broken_longer d r k limit s t small broken = false_from_ne_true (is_kept d r k limit t) (λ kept. true≢false (sym (kept_shorter d r k limit s t small kept) ∙ broken))
