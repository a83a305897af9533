-- A packet is lost.
use Rattle.std.proofs.Common.{◌≡◌, ℕ, false, None, set, refl, sym, ap, ◌∙◌}
use Rattle.dds_base.specs.Sums.{put}
use Rattle.dds_base.specs.declared.events.Event.TheVariants.{Lose}
use Rattle.dds_base.specs.declared.events.Reply.TheVariants.{Refused, Dropped}
use Rattle.dds_base.specs.declared.events.Refusal.TheVariants.{NoPacket}
use Rattle.dds_match.specs.Network.{Network}
use Rattle.dds_runs.specs.World.{World}
use Rattle.dds_runs.specs.Steps.{is_none_of, take_away}
use Rattle.dds_domain.specs.Bus.{at_place}
use Rattle.dds_domain.specs.Standing.{PartsState, Stands, StepsWorld}
use Rattle.dds_domain.proofs.Buses.{clear_stands}
use Rattle.dds_domain.proofs.Worlds.{bus_changes, may, refused}

-- a place that is freed
pub taken_away : (net : Network) (v : World) (d : PartsState) (i : ℕ) → Stands net v d → Stands net (take_away v i) (record d { bus = set d.bus i None })
taken_away net v d i s = bus_changes net v d v.sent (put v.bus i None) (set d.bus i None) s (clear_stands v.bus d.bus i s.bus)

module _ (d : PartsState) (i : ℕ) where
  pub lose_none : at_place d.bus i ≡ None → StepsWorld d (Lose i) (Refused NoPacket) d
  unfolding StepsWorld
  lose_none e net v known reached s = refused net v d (Lose i) NoPacket (rw (sym (s.bus.same i) ∙ e) refl) s

  pub lose_done : is_none_of (at_place d.bus i) ≡ false → StepsWorld d (Lose i) Dropped (record d { bus = set d.bus i None })
  unfolding StepsWorld
  lose_done e net v known reached s = (may net v (Lose i) Dropped (rw (ap is_none_of (sym (s.bus.same i)) ∙ e) refl) refl, taken_away net v d i s)
