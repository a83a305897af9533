-- Which portions of a rule give permits.
use Rattle.std.specs.Prelude.{ℕ, Bool, ◌==◌, ◌&&◌, List, nat_lt}
use Rattle.std.specs.List.{list_any}
use Rattle.dds_base.specs.declared.portion.Portion.{Portion}

-- some portion is of this writer and key, and counts something
abbrev pub gives : List (Portion ℕ) → ℕ → ℕ → Bool
gives es w k = list_any (λ (e : Portion ℕ). (e.endpoint == w) && ((e.key == k) && nat_lt 0 e.count)) es
