-- Runs with a time at each move, and what is premised of them: how often writers write, and how soon samples are available at readers and taken.
use Rattle.std.specs.Prelude.{◌≡◌, ◌⊎◌, ℕ, suc, ◌+◌, ◌≤◌, ◌<◌, Bool, true, false, if◌then◌else◌, ◌==◌, ◌&&◌, nat_le, List, [], ◌∷◌, ◌++◌, Option, Some, None, slice_get, zero}
use Rattle.dds_lists.specs.Lists.{Lists}
use Rattle.dds_match.specs.Network.{Network, IsNetwork}
use Rattle.dds_match.specs.Paces.{available_span, most_within, taken_span}
use Rattle.dds_match.specs.Plan.{network_of}
use Rattle.dds_base.specs.declared.events.Event.TheVariants.{Write}
use Rattle.dds_base.specs.declared.events.Reply.TheVariants.{Written}
use Rattle.dds_runs.specs.World.{World, opening, entry_at, has_number, base}
use Rattle.dds_runs.specs.Steps.{Reply}
use Rattle.dds_runs.specs.Runs.{Move, IsWideRun, replay}
use Rattle.dds_runs.specs.Runs.Move.{Do}

-- a move, its reply, and its time in nanoseconds
pub record Timed : Type 0 where
  pub at : ℕ
  pub move : Move
  pub reply : Reply

-- the moves and replies without their times
abbrev pub untimed : List Timed → List (Move × Reply)
untimed [] = []
untimed (t ∷ ts) = (t.move, t.reply) ∷ untimed ts

-- what is known of a system's clocks
pub record Clocks : Type 0 where
  -- by writer, key and a span in nanoseconds: how many samples of the key the writer writes at most in a closed span of that length; none where
  -- nothing bounds them
  pub most : ℕ → ℕ → ℕ → Option ℕ
  -- by reader: how long after its write each sample that it hears is taken at the latest; none where nothing is known
  pub within : ℕ → Option ℕ
  -- by reader: how long after its write each sample that it hears is available at the latest; none where nothing is known
  pub available : ℕ → Option ℕ

-- the move writes a sample of the key at the writer
abbrev pub is_write : ℕ → ℕ → Move → Reply → Bool
is_write w k (Do (Write x j d)) (Written n) = (x == w) && (j == k)
is_write w k _ _ = false

-- how many samples of the key the writer wrote from time t on
abbrev pub count_since : ℕ → ℕ → ℕ → List Timed → ℕ
count_since w k t [] = 0
count_since w k t (m ∷ ms) = (if is_write w k m.move m.reply && nat_le t m.at then 1 else 0) + count_since w k t ms

-- the move writes a sample at the writer
abbrev pub is_writers : ℕ → Move → Reply → Bool
is_writers w (Do (Write x j d)) (Written n) = x == w
is_writers w _ _ = false

-- the times of all that the writer wrote, in order: that of its number n + 1 is at the place n
abbrev pub write_times : ℕ → List Timed → List ℕ
write_times w [] = []
write_times w (m ∷ ms) = (if is_writers w m.move m.reply then m.at ∷ [] else []) ++ write_times w ms

-- the time of a writer's number; numbers begin at 1
abbrev pub entry_at_time : List ℕ → ℕ → Option ℕ
entry_at_time ts zero = None
entry_at_time ts (suc n) = slice_get ts n

-- no time is before the one ahead of it
abbrev pub NeverFall : ℕ → List Timed → Type 0
NeverFall t [] = Unit {0}
NeverFall t (m ∷ ms) = (t ≤ m.at) × NeverFall m.at ms

-- the strict reader matches the writer and hears the key: its spans are premises. A watcher's are not
abbrev pub Awaits : Network → ℕ → ℕ → ℕ → Type 0
Awaits net w r k = (net.matched w r ≡ true) × (net.watcher r ≡ false) × (net.hears r k ≡ true)

-- the writer wrote a sample of the key under the number at time t, in a run and in the world after it
abbrev pub WroteAt : List Timed → World → ℕ → ℕ → ℕ → ℕ → Type 0
WroteAt ts v w k n t = ((d : List ℕ) × (entry_at (v.written w) n ≡ Some (k, d))) × (entry_at_time (write_times w ts) n ≡ Some t)

-- the premises of a timed run, at each of its moves. No pair of a writer and a key is written more often than its pace allows, in any span that ends
-- there and is as long as one of a strict reader that hears it. What was written longer ago than a strict reader's span of takes is taken, and what was
-- written longer ago than its span of arrivals is available: its number is below the base
pub record KeepsClocks (net : Network) (clocks : Clocks) (ts : List Timed) : Type 0 where
  pub rises : NeverFall 0 ts
  pub paces : (before : List Timed) (m : Timed) (later : List Timed) → ts ≡ before ++ m ∷ later → (w r k span n since : ℕ) → Awaits net w r k
      → (clocks.within r ≡ Some span) ⊎ (clocks.available r ≡ Some span) → clocks.most w k span ≡ Some n → is_write w k m.move m.reply ≡ true → m.at ≤ since + span → count_since w k since before < n
  pub takes : (before : List Timed) (m : Timed) (later : List Timed) → ts ≡ before ++ m ∷ later → (w r k span n t : ℕ) → Awaits net w r k → clocks.within r ≡ Some span
      → WroteAt before (replay net opening (untimed before)) w k n t → t + span < m.at → has_number ((replay net opening (untimed before)).taken r) w n ≡ true
  pub arrives : (before : List Timed) (m : Timed) (later : List Timed) → ts ≡ before ++ m ∷ later → (w r k span n t : ℕ) → Awaits net w r k → clocks.available r ≡ Some span
      → WroteAt before (replay net opening (untimed before)) w k n t → t + span < m.at → n < base (replay net opening (untimed before)) r w

-- the caps and lags of a network are those that its clocks show: a reader with one takes within some span, or at one samples are available within
-- some span, and in it the writer writes no more samples of the key than the cap or the lag
pub record AreCaps (net : Network) (clocks : Clocks) : Type 0 where
  pub cap : (w r k n : ℕ) → net.cap w r k ≡ Some n → (span : ℕ) × (clocks.within r ≡ Some span) × (clocks.most w k span ≡ Some n)
  pub lag : (w r k n : ℕ) → net.lag w r k ≡ Some n → (span : ℕ) × (clocks.available r ≡ Some span) × (clocks.most w k span ≡ Some n)

-- the network without caps and lags, as systems run: nothing keeps a writer from a write but its permits and limits
abbrev pub uncapped : Network → Network
uncapped net = record net { cap = λ w r k. None; lag = λ w r k. None }

-- a run of the system with its clocks is a run of the network with the caps and lags that the clocks show
abbrev pub TimedRuns : Type 0
TimedRuns = (net : Network) (clocks : Clocks) (ts : List Timed) → IsNetwork net → AreCaps net clocks → KeepsClocks (uncapped net) clocks ts
    → IsWideRun (uncapped net) (untimed ts) → IsWideRun net (untimed ts)

-- the clocks of a deployment: the paces of its rules, and how soon its readers take and can take
abbrev pub clocks_of : Lists → Clocks
clocks_of d = record { most = most_within d; within = taken_span d; available = available_span d }

-- a run of a deployment's system that keeps the deployment's clocks is a run of its network
abbrev pub DeploymentRuns : Type 0
DeploymentRuns = (d : Lists) (ts : List Timed) → IsNetwork (network_of d) → KeepsClocks (uncapped (network_of d)) (clocks_of d) ts
    → IsWideRun (uncapped (network_of d)) (untimed ts) → IsWideRun (network_of d) (untimed ts)
