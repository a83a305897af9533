-- Which rules write without end to a reader that must lose nothing.
use Rattle.std.specs.Prelude.{◌≡◌, ℕ, Bool, ◌&&◌, ◌||◌, List, [], Option, Some, None, is_some, is_none, if◌then◌else◌}
use Rattle.std.specs.List.{list_any}
use Rattle.dds_base.specs.declared.portion.Portion.{Portion}
use Rattle.dds_lists.specs.Lists.{Lists}
use Rattle.dds_match.specs.Network.{Network, reach}
use Rattle.dds_match.specs.Plan.{network_of}
use Rattle.dds_weights.specs.Lists as lists
use Rattle.dds_runs.specs.Accepted.{instance_limit}
use Rattle.dds_runs.specs.First.{first_below}
use Rattle.dds_check.specs.Accepts.{first_no}
use Rattle.dds_lint.specs.declared.endless.EndlessRule.{EndlessRule}
use Rattle.dds_lint.specs.Every.{those_below}

-- the samples of the writer that the reader hasn't taken are limited: by the reader, or by the depth of the writer
abbrev pub has_limit : Network → ℕ → ℕ → Bool
has_limit net w r =
    is_some (net.reader_limits r).max_samples || (is_some (instance_limit (net.reader_limits r)) || is_some (net.writer_limits w).keep_last)

-- neither a cap nor a lag bounds what is written there and the reader lacks
abbrev pub is_unbounded : Network → ℕ → Portion ℕ → Bool
is_unbounded net r e = is_none (net.cap e.endpoint r e.key) && is_none (net.lag e.endpoint r e.key)

-- what is written there comes to the reader, is limited, and neither a cap nor a lag bounds it
abbrev pub comes_limited : Network → ℕ → Portion ℕ → Bool
comes_limited net r e = net.matched e.endpoint r && (reach net r e.key && (has_limit net e.endpoint r && is_unbounded net r e))

-- one of the rule's writes is so
abbrev pub writes_limited : Network → ℕ → ℕ → Bool
writes_limited net r u = list_any (comes_limited net r) (net.rule u).writes

-- and the rule lets its writes be made at any time, whatever is taken
abbrev pub is_endless : Network → ℕ → ℕ → Bool
is_endless net r u = (net.rule u).free && writes_limited net r u

abbrev pub endless_if : Bool → (r u : ℕ) → Option EndlessRule
endless_if test r u = if test then Some (record { reader = r; rule = u }) else None

abbrev pub endless_at : Network → ℕ → ℕ → Option EndlessRule
endless_at net r u = endless_if (is_endless net r u) r u

-- the reader must lose nothing, and a rule writes to it without end: the first of them
abbrev pub endless : Network → ℕ → Option EndlessRule
endless net r = if net.watcher r then None else first_below net.rules (endless_at net r)

-- of each reader to which one does, the first, in the order of the readers
unfoldable pub endless_rules : Network → List EndlessRule
endless_rules net = those_below net.readers (endless net)

-- where there is one, no certificate is accepted
abbrev pub AreRefused : Lists → Type 0
AreRefused d = (cert : lists.Certificate) → first_no d cert ≡ None → endless_rules (network_of d) ≡ []
