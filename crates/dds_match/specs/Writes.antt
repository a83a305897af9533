-- What the rules write at each writer, and how many samples that brings.
use Rattle.std.specs.Prelude.{◌≡◌, ℕ, ◌*◌, ◌≤◌, Bool, not, ◌==◌, ◌&&◌, All, List, filter, flat_map, map, length, Option, Some, is_none, option_and_then, option_map}
use Rattle.std.specs.List.{list_any, range_with_len}
use Rattle.dds_base.specs.declared.portion.Portion.{Portion}
use Rattle.dds_lists.specs.Lists.{Rule, Lists}
use Rattle.dds_lists.specs.declared.lists.Pace.{Pace}
use Rattle.dds_match.specs.declared.writes.PacedWrite.{PacedWrite}
use Rattle.dds_match.specs.Paces.{counted, turns}
use Rattle.dds_match.specs.Sums.{sum_of}
use Rattle.dds_match.specs.Words.{rule_of}

-- what the rule writes at the writer, with the rule's pace
abbrev pub rule_writes_at : ℕ → Rule → List PacedWrite
rule_writes_at w u = map (λ (e : Portion ℕ). record { key = e.key; count = e.count; pace = u.pace }) (filter (λ (e : Portion ℕ). e.endpoint == w) u.writes)

-- what all rules write at the writer, in the order of the rules
abbrev pub writes_at : Lists → ℕ → List PacedWrite
writes_at d w = flat_map (λ u. rule_writes_at w (rule_of d u)) (range_with_len 0 (length d.rules.entries))

-- each write of the key has a pace
abbrev pub are_paced : List PacedWrite → ℕ → Bool
are_paced writes k = not (list_any (λ x. (x.key == k) && is_none x.pace) writes)

-- how many samples a write brings at most in a closed span; none where it has no pace
abbrev pub brought : ℕ → PacedWrite → Option ℕ
brought span x = option_map (λ p. x.count * turns p span) x.pace

-- how many samples of the key the writes bring at most in a closed span; none where one of them has no pace
abbrev pub most_brought : List PacedWrite → ℕ → ℕ → Option ℕ
most_brought writes k span = sum_of (brought span) (filter (λ (x : PacedWrite). x.key == k) writes)

-- how many samples of the key are in flight at most, by the writes, to a reader that lacks none for longer than a span
abbrev pub most_in_flight : List PacedWrite → ℕ → Option ℕ → Option ℕ
most_in_flight writes k span = option_and_then counted (option_and_then (most_brought writes k) span)

-- no more than all rules may have, and each pace has a period
pub record AreWrites (writes : List PacedWrite) : Type 0 where
  pub few : length writes ≤ 4096
  pub periods : All (λ (x : PacedWrite). (p : Pace) → x.pace ≡ Some p → 1 ≤ p.period) writes
