-- Why numbers 12 and 14 to 17 refuse an endpoint: the policy that the running profile doesn't have, and what it has instead (DDS 1.4, clause 2.2.3).
use Rattle.std.specs.Prelude.{codes, ℕ, List, ◌++◌}

-- what an endpoint has that it must not have
abbrev pub policy_line : List ℕ → List ℕ → List ℕ
policy_line endpoint policy = codes "because " ++ (endpoint ++ (codes " " ++ (policy ++ codes "\n")))

-- a writer that keeps the last samples alone
abbrev pub keeps_last_line : List ℕ → List ℕ
keeps_last_line endpoint = policy_line endpoint (codes "has history KEEP_LAST, not KEEP_ALL")

-- a writer or a reader of exclusive ownership
abbrev pub exclusive_line : List ℕ → List ℕ
exclusive_line endpoint = policy_line endpoint (codes "has ownership EXCLUSIVE, not SHARED")

-- a reader that orders by source timestamps
abbrev pub source_order_line : List ℕ → List ℕ
source_order_line endpoint = policy_line endpoint (codes "has destination_order BY_SOURCE_TIMESTAMP, not BY_RECEPTION_TIMESTAMP")

-- a reader that asks for order or coherent sets
abbrev pub ordered_line : List ℕ → List ℕ
ordered_line endpoint = policy_line endpoint (codes "asks for ordered or coherent access")

-- a writer that is best-effort
abbrev pub best_effort_line : List ℕ → List ℕ
best_effort_line endpoint = policy_line endpoint (codes "has reliability BEST_EFFORT, not RELIABLE")
