-- Which writes are made again and again, and which end once the starts of their rules are used up.
use Rattle.std.specs.Prelude.{ℕ, Bool, ◌&&◌, ◌||◌, ◌==◌, not, nat_lt}
use Rattle.std.specs.List.{list_any}
use Rattle.dds_base.specs.Sums.{any_below}
use Rattle.dds_base.specs.declared.portion.Portion.{Portion}
use Rattle.dds_match.specs.Network.{Network, is_named}
use Rattle.dds_lint.specs.Firings.{has_takes}

-- the rule can let its writes be made again and again: it takes something, or is free
abbrev pub goes_on : Network → ℕ → Bool
goes_on net u = has_takes net u || (net.rule u).free

-- it can, and one of its writes is this one
abbrev pub renews : Network → ℕ → ℕ → ℕ → Bool
renews net w k u = goes_on net u && is_named (net.rule u).writes w k

-- some rule is so
abbrev pub is_renewed : Network → ℕ → ℕ → Bool
is_renewed net w k = any_below net.rules (renews net w k)

-- the rule writes something that no rule lets be written again
abbrev pub writes_finitely : Network → ℕ → Bool
writes_finitely net u = list_any (λ e. not (is_renewed net e.endpoint e.key)) (net.rule u).writes

-- and it has a start alone
abbrev pub is_finite : Network → ℕ → Bool
is_finite net u = not (goes_on net u) && (nat_lt 0 (net.rule u).start && writes_finitely net u)

-- one of the rule's writes is at the writer
abbrev pub writes_at : Network → ℕ → ℕ → Bool
writes_at net w u = list_any (λ (e : Portion ℕ). e.endpoint == w) (net.rule u).writes

-- and the rule goes on
abbrev pub goes_on_at : Network → ℕ → ℕ → Bool
goes_on_at net w u = goes_on net u && writes_at net w u

-- rules write at the writer, and none of them goes on
abbrev pub ends_at : Network → ℕ → Bool
ends_at net w = any_below net.rules (writes_at net w) && not (any_below net.rules (goes_on_at net w))
