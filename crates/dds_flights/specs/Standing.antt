-- How the flights of a writer stand for its part of a world.
use Rattle.std.specs.Prelude.{◌≡◌, ℕ, suc, ◌-◌, ◌<◌, ◌≤◌, Bool, true, ◌||◌, is_some, List, [], ◌∷◌, All, length, drop, Some}
use Rattle.std.specs.List.{list_any}
use Rattle.dds_lists.specs.Lists.{Lists}
use Rattle.dds_match.specs.Network.{Network}
use Rattle.dds_match.specs.Paces.{available_span, taken_span}
use Rattle.dds_runs.specs.World.{count_key}
use Rattle.dds_flights.specs.Flight.{FlightState, is_of}

-- each number is one of an entry of the key, and as many entries of the key from it on are in the history as numbers from it on are in the list
abbrev pub AreLast : ℕ → List (ℕ × List ℕ) → List ℕ → Type 0
AreLast k entries [] = Unit {0}
AreLast k entries (n ∷ ns) = (1 ≤ n) × (n ≤ length entries) × (count_key k (drop (n - 1) entries) ≡ suc (length ns)) × (count_key k (drop n entries) ≡ length ns) × AreLast k entries ns

-- the numbers are those of the newest entries of the key, of all where they are fewer than the most
pub record AreNewest (most k : ℕ) (entries : List (ℕ × List ℕ)) (ns : List ℕ) : Type 0 where
  pub few : length ns ≤ most
  pub all : length ns < most → count_key k entries ≡ length ns
  pub last : AreLast k entries ns

-- a flight of the writer w with this history, where `taken r k` is how many of its samples of the key the reader took
pub record FlightStands (net : Network) (w : ℕ) (entries : List (ℕ × List ℕ)) (taken : ℕ → ℕ → ℕ) (f : FlightState) : Type 0 where
  pub cap : f.cap ≡ net.cap w f.reader f.key
  pub lag : f.lag ≡ net.lag w f.reader f.key
  pub untaken : (n : ℕ) → f.cap ≡ Some n → f.untaken ≡ count_key f.key entries - taken f.reader f.key
  pub newest : (n : ℕ) → f.lag ≡ Some n → AreNewest n f.key entries f.newest

-- the flights of the writer: each stands for its part, and where there is a cap or a lag, there is one
pub record FlightsStand (net : Network) (w : ℕ) (entries : List (ℕ × List ℕ)) (taken : ℕ → ℕ → ℕ) (fs : List FlightState) : Type 0 where
  pub each : All (FlightStands net w entries taken) fs
  pub caps : (r k n : ℕ) → net.cap w r k ≡ Some n → list_any (is_of r k) fs ≡ true
  pub lags : (r k n : ℕ) → net.lag w r k ≡ Some n → list_any (is_of r k) fs ≡ true

-- ── the opening
-- each flight stands for its part before the first event
abbrev pub Open : Network → ℕ → List FlightState → Type 0
Open net w fs = All (FlightStands net w [] (λ r k. 0)) fs

-- where there is a cap or a lag at the reader, of a key below the end, there is a flight
pub record Covers (net : Network) (w r end : ℕ) (fs : List FlightState) : Type 0 where
  pub caps : (k n : ℕ) → k < end → net.cap w r k ≡ Some n → list_any (is_of r k) fs ≡ true
  pub lags : (k n : ℕ) → k < end → net.lag w r k ≡ Some n → list_any (is_of r k) fs ≡ true

-- flights are added, and each that is there stands for its part if each did before
pub record Adds (net : Network) (w : ℕ) (old new : List FlightState) : Type 0 where
  pub each : Open net w old → Open net w new
  pub kept : (r k : ℕ) → list_any (is_of r k) old ≡ true → list_any (is_of r k) new ≡ true

-- all flights of a reader are added
pub record AddsReader (net : Network) (w r : ℕ) (old new : List FlightState) : Type 0 where
  pub adds : Adds net w old new
  pub covers : Covers net w r net.keys new

-- it is said how soon the reader takes samples, or how soon it can
abbrev pub has_span : Lists → ℕ → Bool
has_span d r = is_some (taken_span d r) || is_some (available_span d r)
