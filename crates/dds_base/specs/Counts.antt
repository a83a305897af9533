-- How many numbers of an interval pass a test. The interval may be as long as all numbers of a writer, so nothing here is computed.
use Rattle.std.specs.Prelude.{ℕ, zero, suc, ◌+◌, ◌-◌, Bool, if◌then◌else◌}

-- of the n numbers from a on
unfoldable pub count_from : (ℕ → Bool) → ℕ → ℕ → ℕ
count_from p a zero = 0
count_from p a (suc n) = count_from p a n + (if p (a + n) then 1 else 0)

-- of the numbers from a to b - 1
unfoldable pub count_between : (ℕ → Bool) → ℕ → ℕ → ℕ
count_between p a b = count_from p a (b - a)
