-- Cells of writers, as what readers hear is added to them.
use Rattle.std.proofs.Common.{ℕ, ◌≡◌, ◌+◌, ◌<◌, ◌≤◌, ◌&&◌, Bool, true, false, cond, is_none, List, replicate, slice_index, refl, sym, ap, ◌∙◌, arith}
use Rattle.std.proofs.lemmas.List.{get_or-replicate, length-replicate}
use Rattle.dds_base.specs.Sums.{total}
use Rattle.dds_match.specs.Network.{Network}
use Rattle.dds_runs.specs.Accepted.{Row, carried}
use Rattle.dds_check.specs.Spreads.{heard, ShowsHeard}
use Rattle.dds_runs.proofs.Sums.{total_start, total_more}

-- empty cells have what no reader hears
pub none_heard : (net : Network) (row : Row) (k n : ℕ) → n ≡ 256 → net.writers ≤ 256 → ShowsHeard net row k 0 (replicate n 0)
none_heard net row k n same few = record {
  len = length-replicate n 0 ∙ same;
  shown = λ w a. empty w (omega arith) ∙ sym (total_start (λ r. heard net row r w k));
  small = λ w a. let none = empty w (omega arith) in omega arith;
}
  where
    empty : (w : ℕ) → w < 256 → slice_index (replicate n 0) w ≡ 0
    empty w l = get_or-replicate n w 0 0 (omega arith)

module _ (net : Network) (row : Row) (k n : ℕ) (cells : List ℕ) (shows : ShowsHeard net row k n cells) where
  plus_zero : (x : ℕ) → x + 0 ≡ x
  plus_zero x = omega arith

  -- a reader for which a write puts nothing in flight
  same_heard : ((w : ℕ) → heard net row n w k ≡ 0) → ShowsHeard net row k (n + 1) cells
  same_heard none = record {
    len = shows.len;
    shown = λ w a.
        let f : ℕ → ℕ = λ r. heard net row r w k in
        shows.shown w a ∙ sym (total_more f n ∙ ap (λ x. total n f + x) (none w) ∙ plus_zero (total n f));
    small = λ w a. let s = shows.small w a in omega arith;
  }

  not_heard : (b c d : Bool) (s : ℕ) → c ≡ false → cond (b && (c && d)) s 0 ≡ 0
  not_heard true c d s e = rw e refl
  not_heard false c d s e = refl

  not_counted : (b c d : Bool) (s : ℕ) → d ≡ false → cond (b && (c && d)) s 0 ≡ 0
  not_counted true true d s e = rw e refl
  not_counted true false d s e = refl
  not_counted false c d s e = refl

  not_weighed : (b : Bool) (s : ℕ) → s ≡ 0 → cond b s 0 ≡ 0
  not_weighed true s e = e
  not_weighed false s e = refl

  -- it doesn't hear the key, or a cap carries its samples, or they weigh nothing
  pub unheard : net.hears n k ≡ false → ShowsHeard net row k (n + 1) cells
  unheard e = same_heard (λ w. not_heard (net.matched w n) (net.hears n k) (is_none (carried net row n k)) (row.samples n k) e)

  pub carried_by_cap : is_none (carried net row n k) ≡ false → ShowsHeard net row k (n + 1) cells
  carried_by_cap e = same_heard (λ w. not_counted (net.matched w n) (net.hears n k) (is_none (carried net row n k)) (row.samples n k) e)

  pub unweighed : row.samples n k ≡ 0 → ShowsHeard net row k (n + 1) cells
  unweighed e = same_heard (λ w. not_weighed (net.matched w n && (net.hears n k && is_none (carried net row n k))) (row.samples n k) e)
