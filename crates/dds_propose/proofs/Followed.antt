-- Permits that follow samples.
use Rattle.std.proofs.Common.{ℕ, ◌≡◌, ◌+◌, ◌<◌, ◌≤◌, ◌==◌, ◌&&◌, ◌||◌, Bool, true, false, if◌then◌else◌, List, [], inl, inr, refl, sym, ap, ◌∙◌, arith}
use Rattle.std.proofs.lemmas.Bool.{cases_eq, eq-eqb, ne_eqb, and_from, and_right, or_parts}
use Rattle.dds_match.specs.Network.{Network, IsNetwork, matched_writers}
use Rattle.dds_propose.specs.declared.weights.Weights.{Weights}
use Rattle.dds_propose.specs.Following.{Follows, IsRisenHeard, RaisesPermits, risen_by}
use Rattle.dds_propose.specs.Relaxation.{by_permits, spread_by}
use Rattle.dds_propose.specs.Tables.{cell, is_place}
use Rattle.dds_propose.proofs.Raising.{risen_matched}
use Rattle.dds_propose.proofs.Spreads.{spread_without, spread_past, neither}
use Rattle.dds_propose.proofs.Tables.{is_there, same_pair, other_pair, cases_pair, put_there, put_elsewhere}

-- nothing follows
pub follows_none : (net : Network) (w : Weights) → Follows net w w false
follows_none net w = record { samples = refl; takes = refl; less = λ r k. omega arith; permits = λ i k. refl; still = λ e i k. refl }

-- one after the other
pub follows_then : (net : Network) (a b c : Weights) (x y z : Bool) → z ≡ (x || y) → Follows net a b x → Follows net b c y → Follows net a c z
follows_then net a b c x y z both f g = record {
  samples = g.samples ∙ f.samples;
  takes = g.takes ∙ f.takes;
  less = λ r k. (let h = f.less r k in let l = g.less r k in omega arith);
  permits = λ w k. g.permits w k ∙ f.permits w k;
  still = λ e w k. (let parts = or_parts x y (sym both ∙ e) in g.still parts.1 w k ∙ f.still parts.0 w k);
}

-- what has risen is heard still
pub still_heard : (net : Network) (a b : Weights) (x : Bool) → Follows net a b x → IsRisenHeard net a → IsRisenHeard net b
still_heard net a b x f heard r k some = heard r k (let less = f.less r k in omega arith)

-- the permits of the matched writers follow the samples of one key of a reader
pub follows_one : (net : Network) → IsNetwork net → net.keys ≡ 64 → net.readers ≤ 256 → net.writers ≤ 256 → (old mid new : Weights) (writers : List ℕ) (r k n : ℕ) (changed : Bool)
    → net.hears r k ≡ true → by_permits net r k ≡ true → cell old.risen r k ≡ n → 1 ≤ n → writers ≡ matched_writers net r
    → mid.samples ≡ old.samples → mid.takes ≡ old.takes → mid.permits ≡ old.permits
    → ((e j : ℕ) → cell mid.risen e j ≡ if is_place e j && ((e == r) && (j == k)) then 0 else cell old.risen e j)
    → RaisesPermits writers k n mid new → (changed ≡ false → writers ≡ []) → Follows net old new changed × (cell new.risen r k ≡ 0)
follows_one net known keys few_readers few_writers old mid new writers r k n changed heard uncapped at some listed samples takes permits zeroed raised none = (
  record {
    samples = raised.samples ∙ samples;
    takes = raised.takes ∙ takes;
    less = λ e j. (let now = gone e j in less e j);
    permits = follow;
    still = still;
  },
  there,
)
  where
    reader : r < net.readers
    reader = known.heard_reader r k heard

    key : k < 64
    key = (let below = known.heard_key r k heard in omega arith)

    place : is_place r k ≡ true
    place = is_there r k (let below = reader in omega arith) key

    gone : (e j : ℕ) → cell new.risen e j ≡ if is_place e j && ((e == r) && (j == k)) then 0 else cell old.risen e j
    gone e j = ap (λ t. cell t e j) raised.risen ∙ zeroed e j

    there : cell new.risen r k ≡ 0
    there = gone r k ∙ put_there (cell old.risen r k) (is_place r k) ((r == r) && (k == k)) 0 place (same_pair r k r k refl refl)

    beside : (e j : ℕ) → ((e ≡ r) × (j ≡ k) → ⊥) → cell new.risen e j ≡ cell old.risen e j
    beside e j apart = gone e j ∙ put_elsewhere (cell old.risen e j) (is_place e j) ((e == r) && (j == k)) 0 (other_pair e j r k apart)

    less : (e j : ℕ) → cell new.risen e j ≤ cell old.risen e j
    less e j = elim (cases_pair e j r k) [
      | inl (own, same) ↦ (let z : cell new.risen e j ≡ 0 = ap (λ x. cell new.risen x j) own ∙ (ap (cell new.risen r) same ∙ there) in omega arith)
      | inr apart ↦ (let z = beside e j apart in omega arith)
    ]

    added : (w j : ℕ) → (if is_place w j && (j == k) then risen_by w n writers else 0) ≡ (if (j == k) && net.matched w r then n else 0)
    added w j = elim (cases_eq j k) [
      | inl own ↦ (let times = ap (risen_by w n) listed ∙ risen_matched net known r w n in rw (times, own, eq-eqb k k refl) (matched w (net.matched w r) refl))
      | inr ne ↦ rw (ne_eqb j k ne, and_right (is_place w j) false refl) refl
    ]
      where
        matched : (w : ℕ) (b : Bool) → net.matched w r ≡ b → (if is_place w k && true then (if net.matched w r then n else 0) else 0) ≡ (if net.matched w r then n else 0)
        matched w true e = (let writer = known.matched_writer w r e in rw (is_there w k (omega arith) key) refl)
        matched w false e = rw e (neither (is_place w k && true) 0 refl)

    now : (w j : ℕ) → cell new.permits w j ≡ cell old.permits w j + (if (j == k) && net.matched w r then n else 0)
    now w j = raised.permits w j ∙ (ap (λ t. cell t w j + (if is_place w j && (j == k) then risen_by w n writers else 0)) permits ∙ ap (λ m. cell old.permits w j + m) (added w j))

    follow : (w j : ℕ) → cell new.permits w j + spread_by net (cell new.risen) w j ≡ cell old.permits w j + spread_by net (cell old.risen) w j
    follow w j = (let before = spread_without net (cell old.risen) (cell new.risen) r k n reader (and_from (net.hears r k) (by_permits net r k) heard uncapped) at there beside w j in let here = now w j in omega arith)

    still : changed ≡ false → (w j : ℕ) → cell new.permits w j ≡ cell old.permits w j
    still e w j = raised.permits w j ∙ (ap (λ t. cell t w j + (if is_place w j && (j == k) then risen_by w n writers else 0)) permits ∙ nothing (is_place w j && (j == k)))
      where
        nothing : (b : Bool) → cell old.permits w j + (if b then risen_by w n writers else 0) ≡ cell old.permits w j
        nothing true = (let empty = ap (risen_by w n) (none e) in omega arith)
        nothing false = omega arith

-- no permit follows the samples of a key of a reader that caps carry
pub follows_capped : (net : Network) → IsNetwork net → net.keys ≡ 64 → net.readers ≤ 256 → (old new : Weights) (r k : ℕ) → net.hears r k ≡ true → by_permits net r k ≡ false
    → new.samples ≡ old.samples → new.takes ≡ old.takes → new.permits ≡ old.permits
    → ((e j : ℕ) → cell new.risen e j ≡ if is_place e j && ((e == r) && (j == k)) then 0 else cell old.risen e j)
    → Follows net old new false × (cell new.risen r k ≡ 0)
follows_capped net known keys few old new r k heard capped samples takes permits zeroed = (
  record {
    samples = samples;
    takes = takes;
    less = less;
    permits = λ w j. (let past = spread_past net (cell old.risen) (cell new.risen) r k capped beside w j in let same = ap (λ t. cell t w j) permits in omega arith);
    still = λ e w j. ap (λ t. cell t w j) permits;
  },
  there,
)
  where
    place : is_place r k ≡ true
    place = (let reader = known.heard_reader r k heard in let key = known.heard_key r k heard in is_there r k (omega arith) (omega arith))

    there : cell new.risen r k ≡ 0
    there = zeroed r k ∙ put_there (cell old.risen r k) (is_place r k) ((r == r) && (k == k)) 0 place (same_pair r k r k refl refl)

    beside : (e j : ℕ) → ((e ≡ r) × (j ≡ k) → ⊥) → cell new.risen e j ≡ cell old.risen e j
    beside e j apart = zeroed e j ∙ put_elsewhere (cell old.risen e j) (is_place e j) ((e == r) && (j == k)) 0 (other_pair e j r k apart)

    less : (e j : ℕ) → cell new.risen e j ≤ cell old.risen e j
    less e j = elim (cases_pair e j r k) [
      | inl (own, same) ↦ (let z : cell new.risen e j ≡ 0 = ap (λ x. cell new.risen x j) own ∙ (ap (cell new.risen r) same ∙ there) in omega arith)
      | inr apart ↦ (let z = beside e j apart in omega arith)
    ]
