-- Whether two rules give permits for the same writes.
use Rattle.std.specs.Prelude.{ℕ, Bool, not, ◌&&◌, List, nat_lt}
use Rattle.std.specs.List.{list_any}
use Rattle.dds_base.specs.declared.portion.Portion.{Portion}
use Rattle.dds_match.specs.Network.{Network}
use Rattle.dds_runs.specs.Steps.{is_empty}
use Rattle.dds_conform.specs.Giving.{gives}

-- of one of these portions, whose writes need permits, the others give permits too
abbrev pub share : Network → List (Portion ℕ) → List (Portion ℕ) → Bool
share net es fs = list_any (λ (e : Portion ℕ). nat_lt 0 e.count && (not (net.free e.endpoint e.key) && gives fs e.endpoint e.key)) es

-- both rules can be fired, and give permits for the same writes
abbrev pub are_rivals : Network → ℕ → ℕ → Bool
are_rivals net u v = not (is_empty (net.rule u).takes) && (not (is_empty (net.rule v).takes) && share net (net.rule u).writes (net.rule v).writes)
