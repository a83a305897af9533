-- Where a participant turns to the bus there is a packet, and the event that its fate makes is not refused.
use Rattle.std.proofs.Common.{◌≡◌, ◌≢◌, ◌⊎◌, inl, inr, ℕ, ◌-◌, ◌≤◌, ◌<◌, true, false, cond, ◌&&◌, Some, None, ap, ◌∙◌, arith}
use Rattle.std.specs.Prelude.{nat_le, ◌==◌, ◌%◌}
use Rattle.std.proofs.lemmas.Bool.{or_cases, or_from, or_left, or_right, and_parts, and_from, and_left, and_right, leb-true, le-leb, lt-leb, eq-eqb, ne_eqb, not-true, cond-false}
use Rattle.dds_base.specs.Sums.{least}
use Rattle.dds_base.specs.declared.events.Fate.{Fate}
use Rattle.dds_base.specs.declared.events.Fate.TheVariants.{Pass, Keep, Last, Lose as LoseIt}
use Rattle.dds_base.specs.declared.events.Refusal.TheVariants.{NoPacket}
use Rattle.dds_base.proofs.SumLaws.{least_passes, least_le}
use Rattle.dds_lists.specs.Lists.{Lists}
use Rattle.dds_match.specs.Network.{Network}
use Rattle.dds_runs.specs.World.{World}
use Rattle.dds_runs.specs.Steps.{places, is_none_of, refusal}
use Rattle.dds_domain.specs.Noted.{Noted}
use Rattle.dds_domain.specs.Schedule.{is_taken, load, lowest, highest, by_fate, is_bus_turn, due, send_due, sending_of}
use Rattle.dds_domain.proofs.Counting.{count_found}

pub lowest_within : (v : World) → 1 ≤ load v → lowest v < places
lowest_within v some = count_found (is_taken v) places some

pub lowest_taken : (v : World) → 1 ≤ load v → is_taken v (lowest v) ≡ true
lowest_taken v some = least_passes (is_taken v) places 0 (lowest_within v some)

-- how far the highest taken place is from the last one
pub highest_within : (v : World) → 1 ≤ load v → least (λ k. is_taken v (places - 1 - k)) places 0 < places
highest_within v some =
    let within = lowest_within v some in
    let there : places - 1 - (places - 1 - lowest v) ≡ lowest v = omega arith in
    let low = least_le (λ k. is_taken v (places - 1 - k)) places 0 (places - 1 - lowest v) (omega arith) (ap (is_taken v) there ∙ lowest_taken v some) in
    omega arith

pub highest_taken : (v : World) → 1 ≤ load v → is_taken v (highest v) ≡ true
highest_taken v some = least_passes (λ k. is_taken v (places - 1 - k)) places 0 (highest_within v some)

-- a participant turns to a bus with a packet alone
pub loaded : (v : World) (turn : ℕ) → is_bus_turn v turn ≡ true → 1 ≤ load v
loaded v turn turns = elim (or_cases (nat_le 64 (load v)) ((turn % 2 == 1) && nat_le 1 (load v)) turns) [
  | inl crowded ↦ let many = leb-true 64 (load v) crowded in omega arith
  | inr odd ↦ leb-true 1 (load v) (and_parts (turn % 2 == 1) (nat_le 1 (load v)) odd).1
]

-- so many packets turn a participant to the bus: one in an odd turn, 64 in an even one
abbrev pub IsEnough : ℕ → ℕ → Type 0
IsEnough turn enough = ((turn % 2 ≡ 1) × (enough ≡ 1)) ⊎ ((turn % 2 ≢ 1) × (enough ≡ 64))

pub turns_to_bus : (v : World) (turn enough : ℕ) → IsEnough turn enough → enough ≤ load v → is_bus_turn v turn ≡ true
turns_to_bus v turn enough (inl one) many =
    or_right (nat_le 64 (load v)) ((turn % 2 == 1) && nat_le 1 (load v)) (and_from (turn % 2 == 1) (nat_le 1 (load v)) (eq-eqb (turn % 2) 1 one.0) (le-leb 1 (load v) (omega arith)))
turns_to_bus v turn enough (inr all) many = or_left (nat_le 64 (load v)) ((turn % 2 == 1) && nat_le 1 (load v)) (le-leb 64 (load v) (omega arith))

-- fewer turn it elsewhere
pub turns_elsewhere : (v : World) (turn enough : ℕ) → IsEnough turn enough → load v < enough → is_bus_turn v turn ≡ false
turns_elsewhere v turn enough (inl one) few =
    or_from (nat_le 64 (load v)) ((turn % 2 == 1) && nat_le 1 (load v)) (lt-leb 64 (load v) (omega arith)) (and_right (turn % 2 == 1) (nat_le 1 (load v)) (lt-leb 1 (load v) (omega arith)))
turns_elsewhere v turn enough (inr all) few =
    or_from (nat_le 64 (load v)) ((turn % 2 == 1) && nat_le 1 (load v)) (lt-leb 64 (load v) (omega arith)) (and_left (turn % 2 == 1) (nat_le 1 (load v)) (ne_eqb (turn % 2) 1 all.0))

at_taken : (v : World) (i : ℕ) → is_taken v i ≡ true → cond (is_none_of (v.bus i)) (Some NoPacket) None ≡ None
at_taken v i taken = cond-false (is_none_of (v.bus i)) (Some NoPacket) None (not-true (is_none_of (v.bus i)) taken)

-- the packet that a fate speaks of is there, so the event is not refused
pub fate_lawful : (net : Network) (v : World) (turn : ℕ) (fate : Fate) → is_bus_turn v turn ≡ true → refusal net v (by_fate v fate) ≡ None
fate_lawful net v turn Pass turns = at_taken v (lowest v) (lowest_taken v (loaded v turn turns))
fate_lawful net v turn Keep turns = at_taken v (lowest v) (lowest_taken v (loaded v turn turns))
fate_lawful net v turn Last turns = at_taken v (highest v) (highest_taken v (loaded v turn turns))
fate_lawful net v turn LoseIt turns = at_taken v (lowest v) (lowest_taken v (loaded v turn turns))

-- ── what is due
pub due_on_bus : (d : Lists) (v : World) (noted : Noted) (p turn : ℕ) (fate : Fate) → is_bus_turn v turn ≡ true → due d v noted p turn fate ≡ Some (by_fate v fate)
due_on_bus d v noted p turn fate turns = rw turns

pub due_in_odd : (d : Lists) (v : World) (noted : Noted) (p turn : ℕ) (fate : Fate) → is_bus_turn v turn ≡ false → turn % 2 ≡ 1 → due d v noted p turn fate ≡ None
due_in_odd d v noted p turn fate elsewhere odd = rw (elsewhere, odd)

pub due_in_even : (d : Lists) (v : World) (noted : Noted) (p turn : ℕ) (fate : Fate) → is_bus_turn v turn ≡ false → turn % 2 ≢ 1 → due d v noted p turn fate ≡ send_due d v noted p (sending_of turn)
due_in_even d v noted p turn fate elsewhere even = let no = ne_eqb (turn % 2) 1 even in rw (elsewhere, no)
