-- Proxies that are found by the numbers of their readers, and that these numbers stay in their order.
use Rattle.std.proofs.Common.{◌≡◌, ℕ, zero, suc, ◌<◌, Bool, true, false, cond, not, ◌&&◌, List, [], ◌∷◌, length, get_or, map, Some, position, refl, ◌∙◌, arith}
use Rattle.std.proofs.lemmas.List.Quantifiers.{position-Some}
use Rattle.dds_base.specs.Sets.{NumberSet}
use Rattle.dds_base.proofs.NumberedLaws.{rising_stays}
use Rattle.dds_qos.specs.Writing.{base_after}
use Rattle.dds_qos.specs.Notes.{note_ack, note_sent}
use Rattle.dds_writer.specs.Proxies.{ProxyState, IsInOrder, is_of, proxy_of, after_acknack, after_message}

-- the first proxy of the reader is the one of the reader
first_is : (r : ℕ) (proxies : List ProxyState) (i : ℕ) (d : ProxyState) → i < length proxies → is_of r (get_or proxies i d) ≡ true → ((k : ℕ) → k < i → is_of r (get_or proxies k d) ≡ false) → get_or proxies i d ≡ proxy_of r proxies
first_is r [] i d within here before = absurd (omega arith)
first_is r (p ∷ proxies) zero d within here before = rw here refl
first_is r (p ∷ proxies) (suc i) d within here before = rw (before 0 (omega arith)) (first_is r proxies i d (omega arith) here (λ k below. before (suc k) (omega arith)))

pub found_proxy : (r : ℕ) (proxies : List ProxyState) (i : ℕ) (x : ProxyState) → position (is_of r) proxies ≡ Some i → x ≡ get_or proxies i x → x ≡ proxy_of r proxies
found_proxy r proxies i x found read =
    let place = position-Some (is_of r) proxies i x found in
    read ∙ first_is r proxies i x place.0 place.1 place.2

-- ── an ACKNACK
-- changes no proxy of another reader
pub acknack_other : (r : ℕ) (set : NumberSet) (written : ℕ) (p : ProxyState) → is_of r p ≡ false → after_acknack r set written p ≡ p
acknack_other r set written p other = rw other refl

acknack_reader : (r : ℕ) (set : NumberSet) (written : ℕ) (p : ProxyState) → (after_acknack r set written p).reader ≡ p.reader
acknack_reader r set written p = go (is_of r p && not p.watcher)
  where
    go : (b : Bool) → (cond b (record { reader = p.reader; filter = p.filter; watcher = p.watcher; base = base_after p.base set.base written; notes = note_ack p.base written set p.notes }) p).reader ≡ p.reader
    go true = refl
    go false = refl

pub acknack_in_order : (rising : Bool) (r : ℕ) (set : NumberSet) (written : ℕ) (proxies : List ProxyState) → IsInOrder rising proxies → IsInOrder rising (map (after_acknack r set written) proxies)
acknack_in_order rising r set written proxies order is = rising_stays (λ (p : ProxyState). p.reader) (after_acknack r set written) proxies (acknack_reader r set written) (order is)

-- ── a message
pub message_other : (r : ℕ) (silent : ProxyState → ℕ → Bool) (n : ℕ) (p : ProxyState) → is_of r p ≡ false → after_message r silent n p ≡ p
message_other r silent n p other = rw other refl

message_reader : (r : ℕ) (silent : ProxyState → ℕ → Bool) (n : ℕ) (p : ProxyState) → (after_message r silent n p).reader ≡ p.reader
message_reader r silent n p = go (is_of r p)
  where
    go : (b : Bool) → (cond b (record { reader = p.reader; filter = p.filter; watcher = p.watcher; base = p.base; notes = note_sent (silent p) n p.notes }) p).reader ≡ p.reader
    go true = refl
    go false = refl

pub message_in_order : (rising : Bool) (r : ℕ) (silent : ProxyState → ℕ → Bool) (n : ℕ) (proxies : List ProxyState) → IsInOrder rising proxies → IsInOrder rising (map (after_message r silent n) proxies)
message_in_order rising r silent n proxies order is = rising_stays (λ (p : ProxyState). p.reader) (after_message r silent n) proxies (message_reader r silent n) (order is)
