-- A packet of a place arrives: it leaves its place, or stays.
use Rattle.std.proofs.Common.{◌≡◌, ℕ, Bool, true, false, cond, Some, None, set, refl, sym, ap, subst, ◌∙◌}
use Rattle.dds_base.specs.declared.events.Event.TheVariants.{Deliver}
use Rattle.dds_base.specs.declared.events.Reply.{Reply}
use Rattle.dds_base.specs.declared.events.Reply.TheVariants.{Refused}
use Rattle.dds_base.specs.declared.events.Refusal.TheVariants.{NoPacket}
use Rattle.dds_base.specs.declared.messages.Packet.{Packet}
use Rattle.dds_base.specs.declared.messages.Packet.TheVariants.{Data, Gap, Heartbeat, AckNack}
use Rattle.dds_match.specs.Network.{Network}
use Rattle.dds_runs.specs.World.{World}
use Rattle.dds_runs.specs.Steps.{May, AtPlace, after, changed, arrived_from, packet_reply, after_packet, take_away}
use Rattle.dds_domain.specs.Bus.{at_place}
use Rattle.dds_domain.specs.Standing.{PartsState, Stands, HasWorld, IsSent, StepsWorld, Receives}
use Rattle.dds_domain.proofs.StepLose.{taken_away}
use Rattle.dds_domain.proofs.Worlds.{refused, may, fact_at}

-- a packet on the bus was sent
pub sent_at : (d : PartsState) (i : ℕ) (p : Packet) → at_place d.bus i ≡ Some p → HasWorld d → IsSent d p
sent_at d i p e (net, v, (known, reached, s)) = (net, v, (known, reached, s), fact_at net v d i p known reached s e)

-- what a packet is answered is no refusal
answered : (net : Network) (v : World) (i : ℕ) (keep : Bool) (p : Packet) → after net v (Deliver i keep) (packet_reply net v p) ≡ changed net v (Deliver i keep) (packet_reply net v p)
answered net v i keep (Data m) = refl
answered net v i keep (Gap m) = refl
answered net v i keep (Heartbeat m) = refl
answered net v i keep (AckNack m) = refl

-- the world after a delivery
after_is : (net : Network) (v : World) (i : ℕ) (keep : Bool) (p : Packet) (reply : Reply) → v.bus i ≡ Some p → reply ≡ packet_reply net v p →
    after net v (Deliver i keep) reply ≡ cond keep (after_packet net v p) (take_away (after_packet net v p) i)
after_is net v i keep p reply at is =
    ap (after net v (Deliver i keep)) is ∙ (answered net v i keep p ∙ ap (λ o. cond keep (arrived_from net v o) (take_away (arrived_from net v o) i)) at)

module _ (d : PartsState) (i : ℕ) where
  pub deliver_none : (keep : Bool) → at_place d.bus i ≡ None → StepsWorld d (Deliver i keep) (Refused NoPacket) d
  unfolding StepsWorld
  deliver_none keep e net v known reached s = refused net v d (Deliver i keep) NoPacket (rw (sym (s.bus.same i) ∙ e) refl) s

  module _ (p : Packet) (e : at_place d.bus i ≡ Some p) (reply : Reply) (new : PartsState) (received : Receives d p reply new) where
    delivered : (keep : Bool) (net : Network) (v : World) → Stands net v d → reply ≡ packet_reply net v p → May net v (Deliver i keep) reply
    delivered keep net v s is =
        let at : v.bus i ≡ Some p = sym (s.bus.same i) ∙ e in
        may net v (Deliver i keep) reply (rw at refl) (subst (λ o. AtPlace o (λ q. reply ≡ packet_reply net v q)) (sym at) is)

    -- it stays
    pub deliver_kept : StepsWorld d (Deliver i true) reply new
    unfolding StepsWorld Receives
    deliver_kept net v known reached s =
        let came = received net v known reached s (fact_at net v d i p known reached s e) in (
          delivered true net v s came.0,
          subst (λ u. Stands net u new) (sym (after_is net v i true p reply (sym (s.bus.same i) ∙ e) came.0)) came.1,
        )

    -- it leaves
    pub deliver_gone : StepsWorld d (Deliver i false) reply (record new { bus = set new.bus i None })
    unfolding StepsWorld Receives
    deliver_gone net v known reached s =
        let came = received net v known reached s (fact_at net v d i p known reached s e) in (
          delivered false net v s came.0,
          subst (λ u. Stands net u (record new { bus = set new.bus i None })) (sym (after_is net v i false p reply (sym (s.bus.same i) ∙ e) came.0)) (taken_away net (after_packet net v p) new i came.1),
        )
