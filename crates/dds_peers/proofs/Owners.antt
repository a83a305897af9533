-- The seats of a gauge that was just made are those of its owners, and then of those that only read.
use Rattle.std.proofs.Common.{◌≡◌, ℕ, zero, suc, ◌+◌, ◌≤◌, List, ◌∷◌, map, take, refl, ap, ◌∙◌, arith, Some, None, if◌then◌else◌}
use Rattle.std.proofs.lemmas.Bool.{lt-ltb}
use Rattle.std.proofs.lemmas.List.FromFn.{take-map-range_with_len}
use Rattle.std.specs.List.{range_with_len}
use Rattle.atomic_table.specs.Seated.{TableId}
use Rattle.dds_book.specs.Gauge.{GaugeState, GaugeSeatState, fresh_seat}
use Rattle.dds_apps.specs.Kept.{AreOwners, claim_of, new_claim}

claimed : (table : TableId) (apps a n : ℕ) → a + n ≤ apps → map claim_of (map (fresh_seat table apps) (range_with_len a n)) ≡ map (new_claim table) (range_with_len a n)
claimed table apps a zero low = refl
claimed table apps a (suc n) low =
    let first : claim_of (fresh_seat table apps a) ≡ new_claim table a = ap (λ b. record { table = table; owner = if b then Some a else None; count = 0 }) (lt-ltb a apps (omega arith)) in
    let others = claimed table apps (a + 1) n (omega arith) in
    λ i. first i ∷ others i

-- of the seats of a new gauge the first are its owners'
pub first_are_owners : (gauge : GaugeState) (monitors : ℕ) → AreOwners gauge gauge.apps (take gauge.apps (map (fresh_seat gauge.table gauge.apps) (range_with_len 0 (gauge.apps + monitors))))
first_are_owners gauge monitors =
    ap (map claim_of) (take-map-range_with_len (fresh_seat gauge.table gauge.apps) 0 (gauge.apps + monitors) gauge.apps (omega arith))
    ∙ claimed gauge.table gauge.apps 0 gauge.apps (omega arith)

-- and where nobody else reads, all are
pub all_are_owners : (gauge : GaugeState) → AreOwners gauge gauge.apps (map (fresh_seat gauge.table gauge.apps) (range_with_len 0 (gauge.apps + 0)))
all_are_owners gauge = ap (λ n. map claim_of (map (fresh_seat gauge.table gauge.apps) (range_with_len 0 n))) (omega arith) ∙ claimed gauge.table gauge.apps 0 gauge.apps (omega arith)

-- so are those that were made with a gauge of so many applications
pub made_are_owners : (gauge : GaugeState) (apps : ℕ) (seats : List GaugeSeatState) → gauge.apps ≡ apps → seats ≡ map (fresh_seat gauge.table apps) (range_with_len 0 (apps + 0))
    → AreOwners gauge apps seats
made_are_owners gauge apps seats is made = rw (made, ← is) (all_are_owners gauge)
