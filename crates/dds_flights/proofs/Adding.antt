-- How the flights of a writer are gathered at the opening.
use Rattle.std.proofs.Common.{◌≡◌, inl, inr, ℕ, zero, suc, ◌+◌, ◌<◌, ◌≤◌, Bool, true, false, cond, ◌||◌, List, [], ◌∷◌, ◌++◌, Option, Some, None, is_some, refl, sym, ap, subst, ◌∙◌, arith}
use Rattle.std.specs.List.{list_any}
use Rattle.std.proofs.lemmas.Bool.{cases_eq, eq-eqb, or_parts}
use Rattle.std.proofs.lemmas.Option.{none-some}
use Rattle.std.proofs.lemmas.List.Folds.{list_any-append}
use Rattle.dds_lists.specs.Lists.{Lists}
use Rattle.dds_match.specs.Network.{Network, IsNetwork}
use Rattle.dds_match.specs.Plan.{network_of}
use Rattle.dds_match.specs.Paces.{available_span, taken_span, in_flight, is_awaited}
use Rattle.dds_flights.specs.Flight.{FlightState, is_of, opening_flight}
use Rattle.dds_flights.specs.Standing.{FlightStands, FlightsStand, Open, Covers, Adds, AddsReader, has_span}

module _ (net : Network) (w : ℕ) where
  pub adds_none : (fs : List FlightState) → Adds net w fs fs
  adds_none fs = record { each = λ given. given; kept = λ r k there. there }

  pub adds_both : (old mid new : List FlightState) → Adds net w old mid → Adds net w mid new → Adds net w old new
  adds_both old mid new first second = record { each = λ given. second.each (first.each given); kept = λ r k there. second.kept r k (first.kept r k there) }

  -- a flight before the first event stands for its part
  opened : (r k : ℕ) → FlightStands net w [] (λ r k. 0) (opening_flight r k (net.cap w r k) (net.lag w r k))
  opened r k = record {
    cap = refl;
    lag = refl;
    untaken = λ n at. refl;
    newest = λ n at. record { few = omega arith; all = λ less. refl; last = tt };
  }

  each_push : (fs : List FlightState) (f : FlightState) → Open net w fs → FlightStands net w [] (λ r k. 0) f → Open net w (fs ++ f ∷ [])
  each_push [] f given stands zero d within = stands
  each_push [] f given stands (suc n) d within = absurd (omega arith)
  each_push (x ∷ xs) f given stands zero d within = given 0 d (omega arith)
  each_push (x ∷ xs) f given stands (suc n) d within = each_push xs f (λ m e below. given (suc m) e (omega arith)) stands n d (omega arith)

  -- the flight of a reader and a key is added
  pub adds_one : (r k : ℕ) (cap lag : Option ℕ) (old new : List FlightState) → cap ≡ net.cap w r k → lag ≡ net.lag w r k → new ≡ old ++ opening_flight r k cap lag ∷ [] → Adds net w old new
  adds_one r k cap lag old new as_cap as_lag pushed = subst (Adds net w old) (sym (pushed ∙ ap (λ f. old ++ f ∷ []) (λ i. opening_flight r k (as_cap i) (as_lag i)))) (record {
    each = λ given. each_push old (opening_flight r k (net.cap w r k) (net.lag w r k)) given (opened r k);
    kept = λ q l there. list_any-append (is_of q l) old (opening_flight r k (net.cap w r k) (net.lag w r k) ∷ []) ∙ ap (λ b. b || list_any (is_of q l) (opening_flight r k (net.cap w r k) (net.lag w r k) ∷ [])) there;
  })

  or_true : (a b : Bool) → b ≡ true → (a || b) ≡ true
  or_true true b t = refl
  or_true false b t = t

  -- and it is there
  one_there : (r k : ℕ) (cap lag : Option ℕ) (old new : List FlightState) → new ≡ old ++ opening_flight r k cap lag ∷ [] → list_any (is_of r k) new ≡ true
  one_there r k cap lag old new pushed = ap (list_any (is_of r k)) pushed ∙ list_any-append (is_of r k) old (opening_flight r k cap lag ∷ [])
      ∙ or_true (list_any (is_of r k) old) (list_any (is_of r k) (opening_flight r k cap lag ∷ [])) (rw (eq-eqb r r refl, eq-eqb k k refl) refl)

  pub covers_none : (r : ℕ) (fs : List FlightState) → Covers net w r 0 fs
  covers_none r fs = record { caps = λ k n below at. absurd (omega arith); lags = λ k n below at. absurd (omega arith) }

  pub covers_one : (r k : ℕ) (cap lag : Option ℕ) (old new : List FlightState) → new ≡ old ++ opening_flight r k cap lag ∷ [] → Adds net w old new → Covers net w r k old → Covers net w r (k + 1) new
  covers_one r k cap lag old new pushed adds before = record {
    caps = λ j n below at. elim (cases_eq j k) [
      | inl e ↦ subst (λ l. list_any (is_of r l) new ≡ true) (sym e) (one_there r k cap lag old new pushed)
      | inr ne ↦ adds.kept r j (before.caps j n (omega arith) at)
    ];
    lags = λ j n below at. elim (cases_eq j k) [
      | inl e ↦ subst (λ l. list_any (is_of r l) new ≡ true) (sym e) (one_there r k cap lag old new pushed)
      | inr ne ↦ adds.kept r j (before.lags j n (omega arith) at)
    ];
  }

  some_of : (o : Option ℕ) (n : ℕ) → o ≡ Some n → is_some o ≡ true
  some_of o n e = ap is_some e

  -- without a cap and a lag nothing is added
  pub covers_skip : (r k : ℕ) (cap lag : Option ℕ) (fs : List FlightState) → cap ≡ net.cap w r k → lag ≡ net.lag w r k → (is_some cap || is_some lag) ≡ false → Covers net w r k fs → Covers net w r (k + 1) fs
  covers_skip r k cap lag fs as_cap as_lag none before =
      let parts = or_parts (is_some cap) (is_some lag) none in
      record {
        caps = λ j n below at. elim (cases_eq j k) [
          | inl e ↦ absurd (let t : is_some cap ≡ true = ap is_some (as_cap ∙ subst (λ l. net.cap w r l ≡ Some n) e at) in cc)
          | inr ne ↦ before.caps j n (omega arith) at
        ];
        lags = λ j n below at. elim (cases_eq j k) [
          | inl e ↦ absurd (let t : is_some lag ≡ true = ap is_some (as_lag ∙ subst (λ l. net.lag w r l ≡ Some n) e at) in cc)
          | inr ne ↦ before.lags j n (omega arith) at
        ];
      }

  -- as the walk over the keys adds them
  pub key_added : (r k key : ℕ) (cap lag : Option ℕ) (f : FlightState) (start old new : List FlightState) → key ≡ k → cap ≡ net.cap w r key → lag ≡ net.lag w r key
      → f ≡ opening_flight r key cap lag → new ≡ old ++ f ∷ [] → Adds net w start old → Covers net w r k old → Adds net w start new × Covers net w r (k + 1) new
  key_added r k key cap lag f start old new number as_cap as_lag made pushed adds covers =
      let more = pushed ∙ ap (λ g. old ++ g ∷ []) made in
      let one = adds_one r key cap lag old new as_cap as_lag more in
      (adds_both start old new adds one, subst (λ l. Covers net w r (l + 1) new) number (covers_one r key cap lag old new more one (subst (λ l. Covers net w r l old) (sym number) covers)))

  pub key_skipped : (r k key : ℕ) (cap lag : Option ℕ) (fs : List FlightState) → key ≡ k → cap ≡ net.cap w r key → lag ≡ net.lag w r key → is_some cap ≡ false → is_some lag ≡ false
      → Covers net w r k fs → Covers net w r (k + 1) fs
  key_skipped r k key cap lag fs number as_cap as_lag no_cap no_lag covers =
      covers_skip r k cap lag fs (as_cap ∙ ap (net.cap w r) number) (as_lag ∙ ap (net.lag w r) number) (rw (no_cap, no_lag) refl) covers

  pub covers_upto : (r end k : ℕ) (fs : List FlightState) → end ≤ k → Covers net w r k fs → Covers net w r end fs
  covers_upto r end k fs le covers = record { caps = λ j n below at. covers.caps j n (omega arith) at; lags = λ j n below at. covers.lags j n (omega arith) at }

  -- ── reader by reader: those below r
  pub record CoversBelow (end : ℕ) (fs : List FlightState) : Type 0 where
    pub caps : (r k n : ℕ) → r < end → net.cap w r k ≡ Some n → list_any (is_of r k) fs ≡ true
    pub lags : (r k n : ℕ) → r < end → net.lag w r k ≡ Some n → list_any (is_of r k) fs ≡ true

  pub below_none : (fs : List FlightState) → CoversBelow 0 fs
  below_none fs = record { caps = λ r k n below at. absurd (omega arith); lags = λ r k n below at. absurd (omega arith) }

  pub below_more : IsNetwork net → (r : ℕ) (old new : List FlightState) → AddsReader net w r old new → CoversBelow r old → CoversBelow (r + 1) new
  below_more known r old new adds before = record {
    caps = λ q k n below at. elim (cases_eq q r) [
      | inl e ↦ subst (λ p. list_any (is_of p k) new ≡ true) (sym e) (let here = subst (λ p. net.cap w p k ≡ Some n) e at in adds.covers.caps k n (known.heard_key r k (known.cap_heard w r k n here)) here)
      | inr ne ↦ adds.adds.kept q k (before.caps q k n (omega arith) at)
    ];
    lags = λ q k n below at. elim (cases_eq q r) [
      | inl e ↦ subst (λ p. list_any (is_of p k) new ≡ true) (sym e) (let here = subst (λ p. net.lag w p k ≡ Some n) e at in adds.covers.lags k n (known.heard_key r k (known.lag_heard w r k n here)) here)
      | inr ne ↦ adds.adds.kept q k (before.lags q k n (omega arith) at)
    ];
  }

  pub below_skip : (r : ℕ) (fs : List FlightState) → ((k : ℕ) → net.cap w r k ≡ None) → ((k : ℕ) → net.lag w r k ≡ None) → CoversBelow r fs → CoversBelow (r + 1) fs
  below_skip r fs no_cap no_lag before = record {
    caps = λ q k n below at. elim (cases_eq q r) [
      | inl e ↦ absurd (none-some n (sym (no_cap k) ∙ subst (λ p. net.cap w p k ≡ Some n) e at))
      | inr ne ↦ before.caps q k n (omega arith) at
    ];
    lags = λ q k n below at. elim (cases_eq q r) [
      | inl e ↦ absurd (none-some n (sym (no_lag k) ∙ subst (λ p. net.lag w p k ≡ Some n) e at))
      | inr ne ↦ before.lags q k n (omega arith) at
    ];
  }

  -- all readers are covered
  pub all_stand : IsNetwork net → (fs : List FlightState) → Open net w fs → CoversBelow net.readers fs → FlightsStand net w [] (λ r k. 0) fs
  all_stand known fs given below = record {
    each = given;
    caps = λ r k n at. below.caps r k n (known.matched_reader w r (known.cap_matched w r k n at)) at;
    lags = λ r k n at. below.lags r k n (known.matched_reader w r (known.lag_matched w r k n at)) at;
  }

-- ── without a span there is no cap and no lag
no_span : (d : Lists) (w r k : ℕ) (span : Option ℕ) → is_some span ≡ false → in_flight d w r k span ≡ None
unfolding in_flight
no_span d w r k None e = cond_none (is_awaited d w r k)
  where
    cond_none : (b : Bool) → ◌≡◌ {A = Option ℕ} (cond b None None) None
    cond_none true = refl
    cond_none false = refl
no_span d w r k (Some n) e = absurd cc

pub no_caps : (d : Lists) (w r : ℕ) → has_span d r ≡ false → (k : ℕ) → (network_of d).cap w r k ≡ None
no_caps d w r none k = no_span d w r k (taken_span d r) (or_parts (is_some (taken_span d r)) (is_some (available_span d r)) none).0

pub no_lags : (d : Lists) (w r : ℕ) → has_span d r ≡ false → (k : ℕ) → (network_of d).lag w r k ≡ None
no_lags d w r none k = no_span d w r k (available_span d r) (or_parts (is_some (taken_span d r)) (is_some (available_span d r)) none).1
