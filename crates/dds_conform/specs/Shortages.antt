-- What the rules lack that could give a permit.
use Rattle.std.specs.Prelude.{ℕ, ◌-◌, List, [], ◌∷◌, Option, Some, None, flat_map, if◌then◌else◌, nat_le}
use Rattle.std.specs.List.{range_with_len}
use Rattle.std.specs.Option.{option_map_or}
use Rattle.dds_base.specs.declared.portion.Portion.{Portion}
use Rattle.dds_match.specs.Network.{Network}
use Rattle.dds_rules.specs.Counts.{CountTable, count_at}
use Rattle.dds_conform.specs.declared.conformance.Shortage.{Shortage}
use Rattle.dds_conform.specs.Giving.{gives}

-- what rule u lacks of one portion, where so many takes are unspent
abbrev pub shortage : CountTable → ℕ → Portion ℕ → Option Shortage
shortage spare u e =
    if nat_le e.count (count_at spare e.endpoint e.key) then None
    else Some (record { rule = u; reader = e.endpoint; key = e.key; missing = e.count - count_at spare e.endpoint e.key })

-- and of several
abbrev pub shortages_of : CountTable → ℕ → List (Portion ℕ) → List Shortage
shortages_of spare u es = flat_map (λ (e : Portion ℕ). option_map_or (λ (s : Shortage). s ∷ []) (shortage spare u e) []) es

-- what rule u lacks, if it gives permits to write the key at the writer
abbrev pub rule_shortages : Network → CountTable → ℕ → ℕ → ℕ → List Shortage
rule_shortages net spare w k u = if gives (net.rule u).writes w k then shortages_of spare u (net.rule u).takes else []

-- what all rules lack, in their order
abbrev pub shortages : Network → CountTable → ℕ → ℕ → List Shortage
shortages net spare w k = flat_map (rule_shortages net spare w k) (range_with_len 0 net.rules)
