-- What is added for a reader to what writes put in flight.
use Rattle.std.specs.Prelude.{ℕ, ◌≡◌, ◌+◌, ◌<◌, ◌≤◌, List, length, slice_index}

-- each writer below n has a place, with as much more in it as the function says; other places stay as they are
pub record Adds (n : ℕ) (more : ℕ → ℕ) (old new : List ℕ) : Type 0 where
  pub len : length new ≡ length old
  pub each : (w : ℕ) → w < n → slice_index new w ≡ slice_index old w + more w
  pub others : (i : ℕ) → n ≤ i → slice_index new i ≡ slice_index old i
