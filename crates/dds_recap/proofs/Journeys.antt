-- A recap goes along with a journal, entry by entry.
use Rattle.std.proofs.Common.{◌≡◌, ◌∙◌, ◌≤◌, ◌+◌, ◌-◌, ℕ, suc, zero, List, [], ◌∷◌, ◌++◌, drop, length, refl, sym, ap, subst, arith}
use Rattle.std.specs.Prelude.{max}
use Rattle.dds_lists.specs.Lists.{Lists}
use Rattle.dds_match.specs.Network.{Network}
use Rattle.dds_match.specs.Plan.{network_of}
use Rattle.dds_runs.specs.World.{World, opening, spare}
use Rattle.dds_runs.specs.Steps.{Event, Reply, after}
use Rattle.dds_runs.specs.Runs.{IsRun, IsRunFrom, as_moves, replay}
use Rattle.dds_book.specs.declared.entry.Entry.{Entry}
use Rattle.dds_book.specs.Journal.{pairs_of, world_after}
use Rattle.dds_apps.specs.declared.player.AppEnd.{AppEnd}
use Rattle.dds_recap.specs.Explanation.{explanation}
use Rattle.dds_recap.specs.Idling.{wait_lines}
use Rattle.dds_recap.specs.Lines.{reader_lines}
use Rattle.dds_recap.specs.Held.{held, held_in_all, most_held, most_held_in_all, peak}
use Rattle.dds_recap.specs.Recap.{Follows, Notes, spare_at}
use Rattle.dds_recap.specs.Tally.{IsTight, KeepsMost, level_at, most_at, most_in_all_at, number_at}
use Rattle.dds_recap.specs.declared.recap.Recap.{Recap}
use Rattle.dds_recap.proofs.Numbers.{still_tight}

-- the recap follows the world that the entries so far lead to; the others go on from there as a run, to the end of all; and the most so far is that
-- of all, but for what is still to come
pub record Going (net : Network) (all rest : List Entry) (x : Recap) : Type 0 where
  pub world : World
  pub follows : Follows net world x
  pub run : IsRunFrom net world (as_moves (pairs_of rest))
  pub last : replay net world (as_moves (pairs_of rest)) ≡ replay net opening (as_moves (pairs_of all))
  pub of_key : (r k : ℕ) → max (most_at x.by_key r k) (peak net (λ v. held v r k) world (pairs_of rest)) ≡ most_held net (pairs_of all) r k
  pub of_all : (r : ℕ) → max (most_in_all_at x.in_all r) (peak net (λ v. held_in_all v r) world (pairs_of rest)) ≡ most_held_in_all net (pairs_of all) r
  pub tight : IsTight x.by_key
  pub all_tight : IsTight x.in_all

-- a peak is no less than where it begins
peak_start : (net : Network) (level : World → ℕ) (v : World) (ms : List (Event × Reply)) → level v ≤ peak net level v ms
peak_start net level v [] = omega arith
peak_start net level v (m ∷ ms) = omega arith

-- what the recap says is held is held
level_held : (net : Network) (v : World) (x : Recap) → Follows net v x → (r k : ℕ) → level_at x.by_key r k ≡ held v r k
level_held net v x f r k = (let came = f.came r k in let gone = f.gone r k in omega (arith, came, gone))

all_held : (net : Network) (v : World) (x : Recap) → Follows net v x → (r : ℕ) → level_at x.in_all r 0 ≡ held_in_all v r
all_held net v x f r = (let came = f.all_came r in let gone = f.all_gone r in omega (arith, came, gone))

pub going_start : (net : Network) (all : List Entry) (x : Recap) → Follows net opening x → ((r k : ℕ) → most_at x.by_key r k ≡ 0) → ((r : ℕ) → most_in_all_at x.in_all r ≡ 0)
    → IsTight x.by_key → IsTight x.in_all → IsRun net (pairs_of all) → Going net all all x
going_start net all x follows of_key of_all tight all_tight run = record {
  world = opening;
  follows = follows;
  run = run;
  last = refl;
  of_key = λ r k. (let none = of_key r k in omega (arith, none));
  of_all = λ r. (let none = of_all r in omega (arith, none));
  tight = tight;
  all_tight = all_tight;
}

-- the most goes on
most_on : (old new before now next peaks total : ℕ) → max old (max before peaks) ≡ total → new ≡ max old now → before ≤ old → now ≡ next → next ≤ peaks → max new peaks ≡ total
most_on old new before now next peaks total was rise low same start = omega arith

pub going_next : (net : Network) (all : List Entry) (e : Entry) (rest : List Entry) (x y : Recap) → Going net all (e ∷ rest) x → Notes net e.event e.reply x y → Going net all rest y
unfolding IsRunFrom replay
going_next net all e rest x y g n =
    let v = g.world in
    let w = after net v e.event e.reply in
    let f : Follows net w y = n.follows v g.follows g.run.0 in
    record {
      world = w;
      follows = f;
      run = g.run.1;
      last = g.last;
      of_key = λ r k.
          most_on (most_at x.by_key r k) (most_at y.by_key r k) (held v r k) (level_at y.by_key r k) (held w r k) (peak net (λ u. held u r k) w (pairs_of rest)) (most_held net (pairs_of all) r k)
          (g.of_key r k) ((n.by_key g.tight).most r k) (subst (λ (h : ℕ). h ≤ most_at x.by_key r k) (level_held net v x g.follows r k) (g.tight r k)) (level_held net w y f r k)
          (peak_start net (λ u. held u r k) w (pairs_of rest));
      of_all = λ r.
          most_on (most_in_all_at x.in_all r) (most_in_all_at y.in_all r) (held_in_all v r) (level_at y.in_all r 0) (held_in_all w r) (peak net (λ u. held_in_all u r) w (pairs_of rest))
          (most_held_in_all net (pairs_of all) r) (g.of_all r) ((n.in_all g.all_tight).most r 0)
          (subst (λ (h : ℕ). h ≤ most_in_all_at x.in_all r) (all_held net v x g.follows r) (g.all_tight r 0)) (all_held net w y f r) (peak_start net (λ u. held_in_all u r) w (pairs_of rest));
      tight = still_tight x.by_key y.by_key n.by_key g.tight;
      all_tight = still_tight x.in_all y.in_all n.in_all g.all_tight;
    }

-- all entries were noted
pub record Gone (net : Network) (all : List Entry) (x : Recap) : Type 0 where
  pub follows : Follows net (replay net opening (as_moves (pairs_of all))) x
  pub of_key : (r k : ℕ) → most_at x.by_key r k ≡ most_held net (pairs_of all) r k
  pub of_all : (r : ℕ) → most_in_all_at x.in_all r ≡ most_held_in_all net (pairs_of all) r

pub going_end : (net : Network) (all : List Entry) (x : Recap) → Going net all [] x → Gone net all x
unfolding replay
going_end net all x g = record {
  follows = subst (λ (v : World). Follows net v x) g.last g.follows;
  of_key = λ r k. (let was = g.of_key r k in let low = g.tight r k in let same = level_held net g.world x g.follows r k in omega (arith, was, low, same));
  of_all = λ r. (let was = g.of_all r in let low = g.all_tight r 0 in let same = all_held net g.world x g.follows r in omega (arith, was, low, same));
}

-- the lines of the recap explain the run
pub explained : (d : Lists) (entries : List Entry) (ends : List AppEnd) (x : Recap) → Follows (network_of d) (world_after d entries) x
    → ((r k : ℕ) → most_at x.by_key r k ≡ most_held (network_of d) (pairs_of entries) r k) → ((r : ℕ) → most_in_all_at x.in_all r ≡ most_held_in_all (network_of d) (pairs_of entries) r)
    → reader_lines d (most_at x.by_key) (most_in_all_at x.in_all) ++ wait_lines d (spare_at x) ends ≡ explanation d entries ends
explained d entries ends x follows of_key of_all =
    let net = network_of d in
    let keys : most_at x.by_key ≡ most_held net (pairs_of entries) = λ i r k. of_key r k i in
    let all : most_in_all_at x.in_all ≡ most_held_in_all net (pairs_of entries) = λ i r. of_all r i in
    let each : (r k : ℕ) → spare_at x r k ≡ spare net (world_after d entries) r k = λ r k. let taken = follows.taken r k in let spent = follows.spent r k in omega (arith, taken, spent) in
    let unspent : spare_at x ≡ spare net (world_after d entries) = λ i r k. each r k i in
    ap (λ (f : ℕ → ℕ → ℕ). reader_lines d f (most_in_all_at x.in_all) ++ wait_lines d (spare_at x) ends) keys
    ∙ (ap (λ (f : ℕ → ℕ). reader_lines d (most_held net (pairs_of entries)) f ++ wait_lines d (spare_at x) ends) all
    ∙ ap (λ (f : ℕ → ℕ → ℕ). reader_lines d (most_held net (pairs_of entries)) (most_held_in_all net (pairs_of entries)) ++ wait_lines d f ends) unspent)
