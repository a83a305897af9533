-- To ask a reader what it misses changes no mark, and what arrives afterwards would have done the same before.
use Rattle.std.proofs.Common.{◌≡◌, ◌≢◌, ℕ, ◌+◌, ◌<◌, ◌≤◌, Bool, true, false, not, if◌then◌else◌, List, [], ◌∷◌, ◌++◌, Option, Some, None, refl, sym, ap, ◌∙◌, subst, arith}
use Rattle.dds_base.specs.Sets.{last_number}
use Rattle.dds_base.specs.Messages.{HeartbeatFor}
use Rattle.dds_base.specs.declared.events.Refusal.TheVariants.{NoPacket}
use Rattle.dds_base.specs.declared.messages.Packet.{Packet}
use Rattle.dds_base.specs.declared.messages.Packet.TheVariants.{Heartbeat, AckNack}
use Rattle.dds_base.proofs.SumLaws.{least_passes, put_at, put_other}
use Rattle.dds_qos.specs.Reading.{base_of}
use Rattle.dds_match.specs.Network.{Network}
use Rattle.dds_runs.specs.World.{World, opening}
use Rattle.dds_runs.specs.Steps.{Event, Reply, Refusal, Sent, SendAckNack, Deliver, refusal, RefusedOr, May, AtPlace, after, is_none_of, packet_reply, put_packet, send, sent_place}
use Rattle.dds_runs.specs.Runs.{Move, MayMove, IsRunFrom, after_move, as_moves, replay}
use Rattle.dds_runs.specs.Runs.Move.{Do}
use Rattle.dds_runs.proofs.Longer.{as_moves_append, replay_append}

-- ── runs
-- the last move of a run may be made where the others lead
run_last : (net : Network) (v : World) (ms : List (Move × Reply)) (m : Move) (reply : Reply) → IsRunFrom net v (ms ++ (m, reply) ∷ []) → MayMove net (replay net v ms) m reply
unfolding replay IsRunFrom
run_last net v [] m reply run = run.0
run_last net v (x ∷ ms) m reply run = run_last net (after_move net v x.0 x.1) ms m reply run.1

-- so may the last event
pub last_may : (net : Network) (ms : List (Event × Reply)) (e : Event) (reply : Reply) → IsRunFrom net opening (as_moves (ms ++ (e, reply) ∷ [])) → May net (replay net opening (as_moves ms)) e reply
last_may net ms e reply run =
    run_last net opening (as_moves ms) (Do e) reply (subst (IsRunFrom net opening) (as_moves_append ms ((e, reply) ∷ [])) run)

-- the world after one more event
pub world_more : (net : Network) (ms : List (Event × Reply)) (e : Event) (reply : Reply) → replay net opening (as_moves (ms ++ (e, reply) ∷ [])) ≡ after net (replay net opening (as_moves ms)) e reply
unfolding replay
world_more net ms e reply = ap (replay net opening) (as_moves_append ms ((e, reply) ∷ [])) ∙ replay_append net opening (as_moves ms) ((Do e, reply) ∷ [])

-- ── an ACKNACK is sent
place_of : Reply → Option ℕ
place_of (Sent p) = p
place_of _ = None

IsSent : Reply → Type 0
IsSent (Sent p) = Unit {0}
IsSent _ = ⊥

sent_unless : (o : Option Refusal) (p q : Option ℕ) → RefusedOr o (Sent p) (Sent p ≡ Sent q) → q ≡ p
unfolding place_of IsSent
sent_unless None p q is = sym (ap place_of is)
sent_unless (Some x) p q is = absurd (subst IsSent is tt)

-- it goes to the place that the reply tells
pub sent_to : (net : Network) (v : World) (r w p : ℕ) → May net v (SendAckNack r w) (Sent (Some p)) → sent_place v ≡ Some p
sent_to net v r w p may = sent_unless (refusal net v (SendAckNack r w)) (Some p) (sent_place v) may

-- where it is, and nothing else has changed on the bus
pub asked_there : (v : World) (packet : Packet) (p : ℕ) → sent_place v ≡ Some p → (send v packet).bus p ≡ Some packet
asked_there v packet p to = subst (λ (o : Option ℕ). put_packet v.bus packet o p ≡ Some packet) (sym to) (put_at v.bus p (Some packet))

pub others_stay : (v : World) (packet : Packet) (p place : ℕ) → sent_place v ≡ Some p → p ≢ place → (send v packet).bus place ≡ v.bus place
others_stay v packet p place to other = subst (λ (o : Option ℕ). put_packet v.bus packet o place ≡ v.bus place) (sym to) (put_other v.bus p place (Some packet) other)

-- the base that an ACKNACK names
abbrev pub asks_for : Option Packet → ℕ
asks_for (Some (AckNack a)) = a.set.base
asks_for _ = 0

-- a base below the end is a number without a mark
pub base_unmarked : (marks : ℕ → Bool) (n : ℕ) → n ≡ base_of marks → n ≤ last_number → marks n ≡ false
base_unmarked marks n is low = unmarked (marks n) (subst (λ m. not (marks m) ≡ true) (sym is) (least_passes (λ m. not (marks m)) last_number 1 (subst (λ m. m < 1 + last_number) is (omega arith))))
  where
    unmarked : (b : Bool) → not b ≡ true → b ≡ false
    unmarked true h = cc
    unmarked false h = refl

-- ── a HEARTBEAT arrives
-- the reply to a packet at a place
Answers : Network → World → Option Packet → Reply → Type 0
Answers net v o reply = RefusedOr (if is_none_of o then Some NoPacket else None) reply (AtPlace o (λ p. reply ≡ packet_reply net v p))

-- in two worlds with the same marks the same reply comes to it
pub same_answer : (net : Network) (v u : World) (place : ℕ) (keep : Bool) (h : HeartbeatFor) (reply : Reply) → v.bus place ≡ Some (Heartbeat h) → u.bus place ≡ Some (Heartbeat h)
    → packet_reply net u (Heartbeat h) ≡ packet_reply net v (Heartbeat h) → May net u (Deliver place keep) reply → May net v (Deliver place keep) reply
unfolding Answers
same_answer net v u place keep h reply here there same may =
    let is : reply ≡ packet_reply net u (Heartbeat h) = subst (λ (o : Option Packet). Answers net u o reply) there may in
    subst (λ (o : Option Packet). Answers net v o reply) (sym here) (is ∙ same)
