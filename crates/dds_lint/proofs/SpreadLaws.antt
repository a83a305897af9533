-- The table of what writes put in flight, as the places of a key are filled writer by writer.
use Rattle.std.proofs.Common.{ℕ, ◌≡◌, ◌≢◌, ◌+◌, ◌*◌, ◌<◌, ◌≤◌, List, length, set, slice_index, replicate, inl, inr, subst, sym, ◌∙◌, arith, length-set}
use Rattle.std.proofs.lemmas.Bool.{cases_eq, cases_lt}
use Rattle.std.proofs.lemmas.List.{get_or-set_same, get_or-set_other, length-replicate}
use Rattle.dds_match.specs.Network.{Network}
use Rattle.dds_runs.specs.Accepted.{Row, spread}
use Rattle.dds_lint.specs.Spreads.{ShowsSpreadsBelow}

module _ (net : Network) (row : Row) where
  -- the places of keys below `key` are filled, and those of `key` for the writers below n
  pub record IsFilledTo (key n : ℕ) (cells : List ℕ) : Type 0 where
    pub len : length cells ≡ 16384
    pub shown : (w k : ℕ) → w < net.writers → k < key → slice_index cells (w * 64 + k) ≡ spread net row w k
    pub column : (w : ℕ) → w < n → slice_index cells (w * 64 + key) ≡ spread net row w key

  pub none_filled : (n : ℕ) → n ≡ 16384 → ShowsSpreadsBelow net row 0 (replicate n 0)
  none_filled n same = record {
    len = length-replicate n 0 ∙ same;
    shown = λ w k a b. absurd (omega arith);
  }

  pub filled_start : (key : ℕ) (cells : List ℕ) → ShowsSpreadsBelow net row key cells → IsFilledTo key 0 cells
  filled_start key cells shows = record { len = shows.len; shown = shows.shown; column = λ w a. absurd (omega arith) }

  pub filled_more : (key n v : ℕ) (cells : List ℕ) → key < 64 → n < 256 → v ≡ spread net row n key → IsFilledTo key n cells → IsFilledTo key (n + 1) (set cells (n * 64 + key) v)
  filled_more key n v cells hk hn is filled =
      let len = filled.len in
      record {
        len = length-set cells (n * 64 + key) v ∙ len;
        shown = λ w k a b.
            let other : w * 64 + k ≢ n * 64 + key = λ e. absurd (omega arith) in
            get_or-set_other cells (n * 64 + key) (w * 64 + k) v 0 other ∙ filled.shown w k a b;
        column = λ w a. elim (cases_eq w n) [
          | inl e ↦ subst (λ m. slice_index (set cells (n * 64 + key) v) (m * 64 + key) ≡ spread net row m key) (sym e) (get_or-set_same cells (n * 64 + key) v 0 (omega arith) ∙ is)
          | inr ne ↦ (
              let other : w * 64 + key ≢ n * 64 + key = λ e. ne (omega arith) in
              get_or-set_other cells (n * 64 + key) (w * 64 + key) v 0 other ∙ filled.column w (omega arith))
        ];
      }

  pub filled_all : (key n : ℕ) (cells : List ℕ) → net.writers ≤ n → IsFilledTo key n cells → ShowsSpreadsBelow net row (key + 1) cells
  filled_all key n cells all filled = record {
    len = filled.len;
    shown = λ w k a b. elim (cases_eq k key) [
      | inl e ↦ subst (λ j. slice_index cells (w * 64 + j) ≡ spread net row w j) (sym e) (filled.column w (omega arith))
      | inr ne ↦ filled.shown w k a (omega arith)
    ];
  }
