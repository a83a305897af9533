-- What an endpoint of a domain is to send next is what the world and the notes say that the domain stands for.
use Rattle.std.proofs.Common.{◌≡◌, ℕ, ◌<◌, ◌≤◌, Bool, true, false, cond, leb, ltb, not, ◌&&◌, ◌||◌, Option, Some, None, length, get_or, refl, sym, ap, subst, ◌∙◌, arith}
use Rattle.std.proofs.lemmas.Bool.{and_from, and_parts, and_right, le-leb, leb-true, lt-leb}
use Rattle.dds_base.specs.Sets.{has}
use Rattle.dds_base.specs.declared.events.Event.TheVariants.{SendAckNack, SendHeartbeat}
use Rattle.dds_base.proofs.SumLaws.{least_passes}
use Rattle.dds_qos.specs.declared.notes.Due.{Due}
use Rattle.dds_qos.specs.declared.notes.Due.TheVariants.{Data, Gap}
use Rattle.dds_qos.specs.Notes.{Notes, due_number, due_of, is_due, watch_due_of}
use Rattle.dds_match.specs.Network.{Network, IsNetwork}
use Rattle.dds_match.specs.Plan.{network_of}
use Rattle.dds_runs.specs.World.{World, is_pending, is_at_hand, is_relevant, is_offered as still_offered}
use Rattle.dds_writer.specs.Proxies.{ProxyState, is_matched, proxy_of}
use Rattle.dds_writer.specs.Writer.{WriterState, is_offered}
use Rattle.dds_writer.specs.Writer as writer
use Rattle.dds_reader.specs.Reader.{ReaderState, owes_to}
use Rattle.dds_domain.specs.Noted.{Noted}
use Rattle.dds_domain.specs.Schedule.{acknack_due, heartbeat_due, writer_due}
use Rattle.dds_domain.specs.Standing.{PartsState, PartsAt, IsRunning, WriterStands}
use Rattle.dds_domain.proofs.Endpoints.{matched_at, matched_within}
use Rattle.dds_domain.proofs.Standing.{has_world}
use Rattle.dds_domain.proofs.Worlds.{writer_at}
use Rattle.dds_domain.proofs.Writers.{base_is, pending_is, offered_is, relevant_is, watcher_is}

-- ── a writer's due
-- what is due of a number: its DATA where it is relevant, and else its GAP
abbrev message_of : (ℕ → Bool) → ℕ → Option Due
message_of relevant n = Some (cond (relevant n) (Data n) (Gap n))

-- what is due is kept: a test of relevance serves as well as one that fails for all that isn't kept
due_of_kept : (kept among relevant : ℕ → Bool) (base : ℕ) (notes : Notes) (written : ℕ) → ((n : ℕ) → among n ≡ (kept n && relevant n)) → due_of kept among base notes written ≡ due_of kept relevant base notes written
due_of_kept kept among relevant base notes written same = go (leb (due_number kept base notes written) written) refl
  where
    go : (b : Bool) → leb (due_number kept base notes written) written ≡ b → cond b (message_of among (due_number kept base notes written)) None ≡ cond b (message_of relevant (due_number kept base notes written)) None
    go false e = refl
    go true e =
        let n = due_number kept base notes written in
        let within = leb-true n written e in
        let passes = least_passes (is_due kept base notes) written 1 (omega arith) in
        let is_kept_n = (and_parts (kept n) (leb base n && (has notes.asked n || ltb notes.sent n)) passes).0 in
        ap (λ c. Some (cond c (Data n) (Gap n))) (same n ∙ ap (λ k. k && relevant n) is_kept_n)

-- what a writer tells as due to the reader of a proxy
abbrev pub told_due : WriterState → ProxyState → Option Due
told_due x p = cond p.watcher (watch_due_of (is_offered x p) p.notes x.written) (due_of (writer.is_pending x) (writer.is_relevant x p) p.base p.notes x.written)

module _ (net : Network) (v : World) (noted : Noted) (w r : ℕ) (x : WriterState) (known : IsNetwork net) (h : WriterStands net w (v.written w) (v.acked w) x) (t : net.matched w r ≡ true) where
  -- it is the world's and the notes', where it noted of the reader what the notes say
  told_due_is : (proxy_of r x.proxies).notes ≡ noted.notes w r → told_due x (proxy_of r x.proxies) ≡ writer_due net v noted w r
  told_due_is notes =
      (λ i. cond (watcher_is net w r (v.written w) (v.acked w) x known h t i)
      (watch_due_of (λ n. offered_is net v w x known h r t n i) (notes i) (h.written i))
      (due_of (λ n. pending_is net v w x known h n i) (writer.is_relevant x (proxy_of r x.proxies)) (base_is net w r (v.written w) (v.acked w) x known h t i) (notes i) (h.written i)))
      ∙ ap (cond (net.watcher r) (watch_due_of (λ n. is_at_hand net v w r n && is_relevant net v w r n) (noted.notes w r) (length (v.written w))))
      (due_of_kept (is_pending net v w) (writer.is_relevant x (proxy_of r x.proxies)) (still_offered net v w r) (v.acked w r) (noted.notes w r) (length (v.written w)) (relevant_is net v w x known h r t))

-- ── of a domain
module _ (d : PartsState) (w r : ℕ) (stands : IsRunning d) (pair : (network_of d.plan).matched w r ≡ true) where
  -- the writer of a pair is there, and has a proxy of the reader
  pair_writer : w < length d.writers
  pair_writer = matched_within d w r (has_world d stands) pair

  pub pair_proxy : (x : WriterState) → x ≡ get_or d.writers w x → is_matched r x.proxies ≡ true
  pair_proxy x here = matched_at d w r x (has_world d stands) pair here

  -- what its writer is to send
  pub due_at : (x : WriterState) (o : Option Due) → x ≡ get_or d.writers w x → o ≡ told_due x (proxy_of r x.proxies) → (v : World) (noted : Noted) → PartsAt v noted d → o ≡ writer_due (network_of d.plan) v noted w r
  due_at x o here is v noted at =
      let net = network_of d.plan in
      let from = writer_at net v d w x at.world pair_writer here in
      let notes = subst (λ (y : WriterState). (proxy_of r y.proxies).notes ≡ noted.notes w r) (sym here) (at.notes.notes w x pair_writer r pair) in
      is ∙ told_due_is net v noted w r x stands.0 from pair notes

  -- the base that it holds for the reader, and how many samples it has written
  pub base_at : (x : WriterState) → x ≡ get_or d.writers w x → (v : World) (noted : Noted) → PartsAt v noted d → ((proxy_of r x.proxies).base ≡ v.acked w r) × (x.written ≡ length (v.written w))
  base_at x here v noted at =
      let net = network_of d.plan in
      let from = writer_at net v d w x at.world pair_writer here in
      (base_is net w r (v.written w) (v.acked w) x stands.0 from pair, from.written)

-- ── a HEARTBEAT
-- the reader has acknowledged all that is written
pub all_acknowledged : (net : Network) (v : World) (w r : ℕ) → length (v.written w) < v.acked w r → None ≡ heartbeat_due net v w r
all_acknowledged net v w r above = sym (ap (λ b. cond b (Some (SendHeartbeat w r)) None) (and_right (not (net.watcher r)) (leb (v.acked w r) (length (v.written w))) (lt-leb (v.acked w r) (length (v.written w)) above)))

pub heartbeat_is_due : (net : Network) (v : World) (w r : ℕ) → net.watcher r ≡ false → v.acked w r ≤ length (v.written w) → Some (SendHeartbeat w r) ≡ heartbeat_due net v w r
heartbeat_is_due net v w r reliable some = sym (ap (λ b. cond b (Some (SendHeartbeat w r)) None) (and_from (not (net.watcher r)) (leb (v.acked w r) (length (v.written w))) (ap not reliable) (le-leb (v.acked w r) (length (v.written w)) some)))

-- ── an ACKNACK
module _ (d : PartsState) (w r : ℕ) (x : ReaderState) (pair : (network_of d.plan).matched w r ≡ true) (within : r < length d.readers) (here : x ≡ get_or d.readers r x) where
  -- whether the reader owes the writer one
  owes_at : (v : World) (noted : Noted) → PartsAt v noted d → owes_to x w ≡ noted.owes r w
  owes_at v noted at = subst (λ (y : ReaderState). owes_to y w ≡ noted.owes r w) (sym here) (at.notes.owes r x within w pair)

  pub acknack_is_due : owes_to x w ≡ true → (v : World) (noted : Noted) → PartsAt v noted d → Some (SendAckNack r w) ≡ acknack_due noted r w
  acknack_is_due owes v noted at = sym (ap (λ b. cond b (Some (SendAckNack r w)) None) (sym (owes_at v noted at) ∙ owes))

  pub no_acknack_due : owes_to x w ≡ false → (v : World) (noted : Noted) → PartsAt v noted d → None ≡ acknack_due noted r w
  no_acknack_due none v noted at = sym (ap (λ b. cond b (Some (SendAckNack r w)) None) (sym (owes_at v noted at) ∙ none))

-- ── how many readers there are
pub reader_entries : (d : PartsState) → IsRunning d → length d.readers ≡ length d.plan.readers.entries
reader_entries d (known, v, noted, at) = at.world.reader_count
