-- Each list of endpoints shows its word, which is empty where there is no such endpoint or participant.
use Rattle.std.proofs.Common.{◌≡◌, ◌<◌, ◌≤◌, ℕ, Bool, true, false, List, [], ◌∷◌, length, slice_get, filter, Option, Vec, Some, None, inl, inr, refl, sym, ap, ◌∙◌, arith}
use Rattle.std.specs.Prelude.{◌==◌}
use Rattle.std.specs.List.{range_with_len}
use Rattle.std.specs.Option.{option_map_or}
use Rattle.std.proofs.lemmas.Bool.{and_parts, cases_lt, eqb-true, false_from_ne_true, false≢true, ltb-true}
use Rattle.std.proofs.lemmas.Option.{slice_get_past}
use Rattle.dds_lists.specs.Lists.{Lists, Reader, Writer}
use Rattle.dds_lists.specs.WellFormed.{IsReaderOf, IsWellFormed, IsWriterOf}
use Rattle.dds_match.specs.Network.{matched_readers, matched_writers}
use Rattle.dds_match.specs.Neighbours.{ShowsEach, list_at}
use Rattle.dds_match.specs.Plan.{is_reader_of, is_writer_of, matched, network_of, participant_readers, participant_writers}
use Rattle.dds_match.proofs.Known.{all_at}

-- nothing is left where nothing passes
none_left : (test : ℕ → Bool) (xs : List ℕ) → ((x : ℕ) → test x ≡ false) → filter test xs ≡ []
none_left test [] fails = refl
none_left test (x ∷ xs) fails = rw (fails x) (none_left test xs fails)

-- the lists of all that is there are the lists at all places
pub at_each_place : {A Z : Type 0} (list_of : ℕ → List A) (lists : List (Vec A Z)) (n : ℕ) → length lists ≡ n
    → ((i : ℕ) → i < n → list_at lists i ≡ list_of i) → ((i : ℕ) → n ≤ i → list_of i ≡ []) → ShowsEach list_of lists
at_each_place {A} {Z} list_of lists n size there past i = elim (cases_lt i n) [
  | inl below ↦ there i below
  | inr above ↦ ap (λ (o : Option (Vec A Z)). option_map_or (λ v. v.items) o []) (slice_get_past lists i (omega arith)) ∙ sym (past i above)
]

pub no_writer : (d : Lists) (w : ℕ) → length d.writers.entries ≤ w → matched_readers (network_of d) w ≡ []
no_writer d w past = none_left (matched d w) (range_with_len 0 (length d.readers.entries))
    (λ r. false_from_ne_true (matched d w r) (λ both. let below = ltb-true w (length d.writers.entries) (and_parts _ _ both).0 in omega arith))

pub no_reader : (d : Lists) (r : ℕ) → length d.readers.entries ≤ r → matched_writers (network_of d) r ≡ []
no_reader d r past = none_left (λ w. matched d w r) (range_with_len 0 (length d.writers.entries))
    (λ w. false_from_ne_true (matched d w r) (λ both. let below = ltb-true r (length d.readers.entries) (and_parts _ _ (and_parts _ _ both).1).0 in omega arith))

-- the participant of an endpoint is there
writer_is_at : (d : Lists) → IsWellFormed d → (p w : ℕ) (o : Option Writer) → slice_get d.writers.entries w ≡ o → option_map_or (λ (x : Writer). x.participant == p) o false ≡ true → p < length d.participants.entries
writer_is_at d well p w None at own = absurd (false≢true own)
writer_is_at d well p w (Some x) at own =
    let writer : IsWriterOf d x = all_at (IsWriterOf d) d.writers.entries w x well.each_writer at in
    let same = eqb-true x.participant p own in
    omega arith

reader_is_at : (d : Lists) → IsWellFormed d → (p r : ℕ) (o : Option Reader) → slice_get d.readers.entries r ≡ o → option_map_or (λ (x : Reader). x.participant == p) o false ≡ true → p < length d.participants.entries
reader_is_at d well p r None at own = absurd (false≢true own)
reader_is_at d well p r (Some x) at own =
    let reader : IsReaderOf d x = all_at (IsReaderOf d) d.readers.entries r x well.each_reader at in
    let same = eqb-true x.participant p own in
    omega arith

pub no_participant_writes : (d : Lists) → IsWellFormed d → (p : ℕ) → length d.participants.entries ≤ p → participant_writers d p ≡ []
no_participant_writes d well p past = none_left (is_writer_of d p) (range_with_len 0 (length d.writers.entries))
    (λ w. false_from_ne_true (is_writer_of d p w) (λ own. let below = writer_is_at d well p w (slice_get d.writers.entries w) refl own in omega arith))

pub no_participant_reads : (d : Lists) → IsWellFormed d → (p : ℕ) → length d.participants.entries ≤ p → participant_readers d p ≡ []
no_participant_reads d well p past = none_left (is_reader_of d p) (range_with_len 0 (length d.readers.entries))
    (λ r. false_from_ne_true (is_reader_of d p r) (λ own. let below = reader_is_at d well p r (slice_get d.readers.entries r) refl own in omega arith))
