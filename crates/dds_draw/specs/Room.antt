-- How much room a reader's limits leave above what a certificate shows (OMG DDS 1.4, clauses 2.2.3.18 and 2.2.3.19).
use Rattle.std.specs.Prelude.{codes, ℕ, Bool, false, List, ◌==◌, ◌&&◌, ◌||◌, nat_lt, Option, Some, None, if◌then◌else◌}
use Rattle.std.specs.List.{list_any}
use Rattle.dds_qos.specs.declared.limits.ReaderLimits.{ReaderLimits}
use Rattle.dds_weights.specs.Lists.{Certificate}
use Rattle.dds_weights.specs.declared.certificate.Bound.{Bound}
use Rattle.dds_weights.specs.declared.certificate.Total.{Total}
use Rattle.dds_runs.specs.Accepted.{instance_limit}
use Rattle.dds_draw.specs.declared.room.Room.{Room}
use Rattle.dds_draw.specs.declared.room.Room.TheVariants.{Ample, Tight, Beyond}

-- a limit leaves this room above a number; no limit leaves none of them
abbrev pub is_room : Room → ℕ → Option ℕ → Bool
is_room room number None = false
is_room Ample number (Some limit) = nat_lt number limit
is_room Tight number (Some limit) = number == limit
is_room Beyond number (Some limit) = nat_lt limit number

-- a limit leaves this room above a bound of the reader
abbrev pub has_bound : List Bound → ℕ → Option ℕ → Room → Bool
has_bound bounds r limit room = list_any (λ b. (b.reader == r) && is_room room b.bound limit) bounds

-- a limit leaves this room above a total of the reader
abbrev pub has_total : List Total → ℕ → Option ℕ → Room → Bool
has_total totals r limit room = list_any (λ t. (t.reader == r) && is_room room t.bound limit) totals

-- a limit of the reader leaves this room above a bound or a total of the certificate
abbrev pub has_room : Certificate → ℕ → ReaderLimits → Room → Bool
has_room c r limits room = has_bound c.bounds r (instance_limit limits) room || has_total c.totals r limits.max_samples room

-- the colour of a reader's node: red where a bound or total is beyond its limit, amber where one reaches it, green where there's room, and white
-- where no limit is compared
abbrev pub colour_of : Option Certificate → ℕ → ReaderLimits → List ℕ
colour_of None r limits = codes "white"
colour_of (Some c) r limits =
    if has_room c r limits Beyond then codes "salmon"
    else if has_room c r limits Tight then codes "gold"
    else if has_room c r limits Ample then codes "palegreen"
    else codes "white"
