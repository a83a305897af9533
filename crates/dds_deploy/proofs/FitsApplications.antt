-- Applications as they were read: each endpoint has one owner, at its participant.
use Rattle.std.proofs.Common.{codes, ◌≡◌, ℕ, ◌<◌, Bool, true, false, cond, List, [], ◌∷◌, length, take, get_or, Option, Some, None, Ok, refl, sym, ap, subst, ◌∙◌, arith, All, Contains, true≢false, nat_lt, ltb-true, ltb-false, eqb-true, eq-eqb}
use Rattle.std.specs.Prelude.{◌||◌, ◌==◌, not, slice_get, option_map, unwrap_or}
use Rattle.std.specs.List.{list_any, find, range_with_len, AllByRecursion}
use Rattle.std.proofs.lemmas.List.{get_or-take, length-take-le}
use Rattle.std.proofs.lemmas.List.Elements.{All-nil, All-from_recursion}
use Rattle.std.proofs.lemmas.List.Folds.{list_any_at, Any-from_list_any}
use Rattle.std.proofs.lemmas.List.FromFn.{length-range_with_len, get_or-range_with_len}
use Rattle.std.proofs.lemmas.Option.{slice_get_within, slice_get-get_or, get_or_from_slice_get}
use Rattle.toml.specs.Data.{Members}
use Rattle.dds_base.proofs.Bools.{is_not, neither}
use Rattle.dds_fields.specs.declared.fault.FaultKind.{FaultKind}
use Rattle.dds_fields.specs.declared.fault.FaultKind.TheVariants.{EndpointOwner}
use Rattle.dds_fields.specs.Reading.{nothing_or, field, a_known_name, optional}
use Rattle.dds_base.specs.Section.{Listed}
use Rattle.dds_fields.specs.Paths.{index_path}
use Rattle.dds_fields.proofs.Laws.{bind_ok, ok_is}
use Rattle.dds_lists.specs.Lists.{Participant, Writer, Reader, Application, Lists, has}
use Rattle.dds_deploy.specs.Applications.{may_own, writer_participant, reader_participant, own, own_writers, own_readers, application, application_fields, application_list, applications, without_owner, are_owned}
use Rattle.dds_lists.specs.WellFormed.{AreDistinctBy, IsApplicationOf, IsOwnedOnce}
use Rattle.dds_deploy.proofs.Pushes.{optional_keeps, pushes_all}
use Rattle.dds_deploy.proofs.Distinct.{none_shows, pushes_distinct, distinct_nothing}
use Rattle.dds_deploy.proofs.Readings.{both, number_field, IsReadEach, list_each, section_each, IsOwn, own_pushes, entry_adds, IsApplicationRead}
use Rattle.dds_deploy.proofs.ListsRead.{ListRead, list_read}
use Rattle.dds_deploy.proofs.FitsRules.{contains_has}

-- what the endpoints of an application at p keep, after these other applications
record AreOwn (endpoints_of : Application → List ℕ) (participant_of : ℕ → ℕ) (others : List Application) (count p : ℕ) (ns : List ℕ) : Type 0 where
  pub below : All (λ n. n < count) ns
  pub distinct : AreDistinctBy (λ n. n) ns
  pub unowned : All (λ n. list_any (λ a. has (endpoints_of a) n) others ≡ false) ns
  pub beside : All (λ n. participant_of n ≡ p) ns

none_own : (endpoints_of : Application → List ℕ) (participant_of : ℕ → ℕ) (others : List Application) (count p : ℕ) → AreOwn endpoints_of participant_of others count p []
none_own endpoints_of participant_of others count p = record {
  below = All-nil (λ n. n < count);
  distinct = distinct_nothing (λ n. n);
  unowned = All-nil (λ n. list_any (λ a. has (endpoints_of a) n) others ≡ false);
  beside = All-nil (λ n. participant_of n ≡ p);
}

-- what the test of one more endpoint tells
record IsAllowed (endpoints_of : Application → List ℕ) (participant_of : ℕ → ℕ) (others : List Application) (p : ℕ) (before : List ℕ) (n : ℕ) : Type 0 where
  pub unowned : list_any (λ a. has (endpoints_of a) n) others ≡ false
  pub fresh : has before n ≡ false
  pub beside : participant_of n ≡ p

module _ (endpoints_of : Application → List ℕ) (participant_of : ℕ → ℕ) (names : List (List ℕ)) (others : Listed Application) (p : ℕ) where
  is_allowed : (before : List ℕ) (n : ℕ) → may_own endpoints_of participant_of others p before n ≡ true → IsAllowed endpoints_of participant_of others.entries p before n
  is_allowed before n e =
      let taken = list_any (λ a. has (endpoints_of a) n) others.entries in
      let two = both (not (taken || has before n)) (participant_of n == p) e in
      let free = neither taken (has before n) (is_not (taken || has before n) two.0) in
      record { unowned = free.0; fresh = free.1; beside = eqb-true (participant_of n) p two.1 }

  are_own : (path : List ℕ) (ns : List ℕ) → IsReadEach (own names endpoints_of participant_of others p) path 256 [] ns → AreOwn endpoints_of participant_of others.entries (length names) p ns
  are_own path ns e =
      let read = own names endpoints_of participant_of others p in
      let step = own_pushes endpoints_of participant_of names others p in
      let P = IsOwn endpoints_of participant_of names others p in
      record {
        below = pushes_all read P step path e.0 ns (λ n. n < length names) (λ s n f. f.known) e.2;
        distinct = pushes_distinct (λ n. n) read P step path e.0 ns (λ s n f. none_shows (λ m. m) (λ m. m == n) s n (λ m same. eq-eqb m n same) (is_allowed s n f.allowed).fresh) e.2;
        unowned = pushes_all read P step path e.0 ns (λ n. list_any (λ a. has (endpoints_of a) n) others.entries ≡ false) (λ s n f. (is_allowed s n f.allowed).unowned) e.2;
        beside = pushes_all read P step path e.0 ns (λ n. participant_of n ≡ p) (λ s n f. (is_allowed s n f.allowed).beside) e.2;
      }

-- an application, after these others
record ApplicationFits (ps : Listed Participant) (ws : Listed Writer) (rs : Listed Reader) (others : List Application) (a : Application) : Type 0 where
  pub participant : a.participant < length ps.entries
  pub writers : AreOwn (λ x. x.writers) (writer_participant ws) others (length ws.names) a.participant a.writers
  pub readers : AreOwn (λ x. x.readers) (reader_participant rs) others (length rs.names) a.participant a.readers

module _ (ps : Listed Participant) (ws : Listed Writer) (rs : Listed Reader) (paired : length ps.names ≡ length ps.entries) where
  fields_fit : (others : Listed Application) (path : List ℕ) (ms : Members) (a : Application) → application_fields ps ws rs others path ms ≡ Ok a → ApplicationFits ps ws rs others.entries a
  unfolding application_fields
  fields_fit others path ms a e =
      let p = bind_ok (field (codes "participant") (a_known_name ps.names) path ms) _ a e in
      let w = bind_ok (optional (codes "writers") [] (own_writers ws others p.0) path ms) _ a p.2 in
      let r = bind_ok (optional (codes "readers") [] (own_readers rs others p.0) path ms) _ a w.2 in
      let made : Application = record { participant = p.0; writers = w.0; readers = r.0 } in
      let W = AreOwn (λ x. x.writers) (writer_participant ws) others.entries (length ws.names) p.0 in
      let R = AreOwn (λ x. x.readers) (reader_participant rs) others.entries (length rs.names) p.0 in
      subst (ApplicationFits ps ws rs others.entries) (ok_is made a r.2) (record {
        participant = number_field ps paired (codes "participant") path ms p.0 p.1;
        writers = optional_keeps W (codes "writers") [] (own_writers ws others p.0) path ms w.0 (none_own (λ x. x.writers) (writer_participant ws) others.entries (length ws.names) p.0)
            (λ q x h. are_own (λ y. y.writers) (writer_participant ws) ws.names others p.0 q w.0 (list_each _ q x w.0 h)) w.1;
        readers = optional_keeps R (codes "readers") [] (own_readers rs others p.0) path ms r.0 (none_own (λ x. x.readers) (reader_participant rs) others.entries (length rs.names) p.0)
            (λ q x h. are_own (λ y. y.readers) (reader_participant rs) rs.names others p.0 q r.0 (list_each _ q x r.0 h)) r.1;
      })

-- the test finds nothing

find_none_each : {A : Type 0} (p : A → Bool) (xs : List A) → find p xs ≡ None → AllByRecursion (λ x. p x ≡ false) xs
find_none_each p [] e = tt
find_none_each {A} p (x ∷ xs) e = let two = by (p x) e in (two.0, find_none_each p xs two.1)
  where
    by : (b : Bool) → cond b (Some x) (find p xs) ≡ None → (b ≡ false) × (find p xs ≡ None)
    by true e = absurd cc
    by false e = (refl, e)

nothing_is : {A : Type 0} (kind : FaultKind) (shown : A → List ℕ) (o : Option A) (u : Unit {0}) → nothing_or kind (option_map shown o) ≡ Ok u → o ≡ None
nothing_is kind shown None u e = refl
nothing_is kind shown (Some x) u e = absurd cc

-- the application that has the endpoint
record IsOwner (endpoints_of : Application → List ℕ) (all : List Application) (n : ℕ) : Type 0 where
  pub owner : ℕ
  pub application : Application
  pub at : slice_get all owner ≡ Some application
  pub owns : Contains (endpoints_of application) n

has_owner : (endpoints_of : Application → List ℕ) (all : Listed Application) (count : ℕ) → without_owner endpoints_of all count ≡ None → (n : ℕ) → n < count → IsOwner endpoints_of all.entries n
has_owner endpoints_of all count e n lt =
    let fails = All-from_recursion (λ m. not (list_any (λ a. has (endpoints_of a) m) all.entries) ≡ false) (range_with_len 0 count) (find_none_each (λ m. not (list_any (λ a. has (endpoints_of a) m) all.entries)) (range_with_len 0 count) e) in
    let size = length-range_with_len 0 count in
    let here = fails n 0 (omega (arith, lt, size)) in
    let is : get_or (range_with_len 0 count) n 0 ≡ n = get_or-range_with_len 0 count n 0 lt ∙ omega arith in
    let found = Any-from_list_any (λ a. has (endpoints_of a) n) all.entries (passes (list_any (λ a. has (endpoints_of a) n) all.entries) (subst (λ m. not (list_any (λ a. has (endpoints_of a) m) all.entries) ≡ false) is here)) in
    record { owner = found.0; application = found.1; at = slice_get-get_or all.entries found.0 found.1 found.2 ∙ ap Some found.3; owns = contains_has (endpoints_of found.1) n found.4 }
  where
    passes : (b : Bool) → not b ≡ false → b ≡ true
    passes true e = refl
    passes false e = absurd cc

has_contained : (numbers : List ℕ) (n : ℕ) → Contains numbers n → has numbers n ≡ true
has_contained numbers n c = list_any_at (λ m. m == n) numbers c.0 n c.1 (eq-eqb (get_or numbers c.0 n) n c.2)

-- what holds of all holds of each
holds_of : {A : Type 0} (P : A → Type 0) (xs : List A) (x : A) → All P xs → Contains xs x → P x
holds_of P xs x all c = subst P c.2 (all c.0 x c.1)

module _ (endpoints_of : Application → List ℕ) (participant_of : ℕ → ℕ) (count : ℕ) (all : Listed Application)
    (own : (k : ℕ) (x : Application) → slice_get all.entries k ≡ Some x → AreOwn endpoints_of participant_of (take k all.entries) count x.participant (endpoints_of x)) where
  not_earlier : (a b n : ℕ) (x y : Application) → slice_get all.entries a ≡ Some x → slice_get all.entries b ≡ Some y → Contains (endpoints_of x) n → Contains (endpoints_of y) n → a < b → ⊥
  not_earlier a b n x y at_a at_b in_x in_y lt =
      let none = holds_of (λ m. list_any (λ z. has (endpoints_of z) m) (take b all.entries) ≡ false) (endpoints_of y) n (own b y at_b).unowned in_y in
      let inside = slice_get_within all.entries b y at_b in
      let size = length-take-le b all.entries (omega (arith, inside)) in
      let is : get_or (take b all.entries) a x ≡ x = get_or-take b all.entries a x lt ∙ get_or_from_slice_get all.entries a x x at_a in
      let some = list_any_at (λ z. has (endpoints_of z) n) (take b all.entries) a x (omega (arith, size, lt)) (ap (λ z. has (endpoints_of z) n) is ∙ has_contained (endpoints_of x) n in_x) in
      true≢false (sym some ∙ none)

  one_owner : (a b n : ℕ) (x y : Application) → slice_get all.entries a ≡ Some x → slice_get all.entries b ≡ Some y → Contains (endpoints_of x) n → Contains (endpoints_of y) n → a ≡ b
  one_owner a b n x y at_a at_b in_x in_y = by (nat_lt a b) (nat_lt b a) refl refl
    where
      by : (p q : Bool) → nat_lt a b ≡ p → nat_lt b a ≡ q → a ≡ b
      by true q h g = absurd (not_earlier a b n x y at_a at_b in_x in_y (ltb-true a b h))
      by false true h g = absurd (not_earlier b a n y x at_b at_a in_y in_x (ltb-true b a g))
      by false false h g = let le = ltb-false a b h in let ge = ltb-false b a g in omega (arith, le, ge)

  owned_once : (n participant : ℕ) → participant_of n ≡ participant → IsOwner endpoints_of all.entries n → IsOwnedOnce endpoints_of all participant n
  owned_once n participant same o = record {
    owner = o.owner;
    application = o.application;
    at = o.at;
    owns = o.owns;
    beside = sym (holds_of (λ m. participant_of m ≡ o.application.participant) (endpoints_of o.application) n (own o.owner o.application o.at).beside o.owns) ∙ same;
    only = λ a other at has_n. one_owner a o.owner n other o.application at o.at has_n o.owns;
  }

-- all that the section of applications tells
pub record ApplicationsRead (ps : Listed Participant) (ws : Listed Writer) (rs : Listed Reader) (all : Listed Application) : Type 0 where
  pub list : ListRead 64 (IsApplicationRead ps ws rs) all
  pub writers : without_owner (λ a. a.writers) all (length ws.entries) ≡ None
  pub readers : without_owner (λ a. a.readers) all (length rs.entries) ≡ None

pub applications_are_read : (ps : Listed Participant) (ws : Listed Writer) (rs : Listed Reader) (ms : Members) (all : Listed Application) → applications ps ws rs ms ≡ Ok all → ApplicationsRead ps ws rs all
unfolding applications are_owned
applications_are_read ps ws rs ms all e =
    let a = bind_ok (application_list ps ws rs ms) _ all e in
    let w = bind_ok (are_owned (codes "writers") (λ x. x.writers) a.0 (length ws.entries)) _ all a.2 in
    let r = bind_ok (are_owned (codes "readers") (λ x. x.readers) a.0 (length rs.entries)) _ all w.2 in
    subst (ApplicationsRead ps ws rs) (ok_is a.0 all r.2) (record {
      list = list_read (application ps ws rs) (IsApplicationRead ps ws rs) (entry_adds _ _) (codes "applications") 64 a.0 (section_each _ _ ms a.0 a.1);
      writers = nothing_is EndpointOwner (index_path (codes "writers")) (without_owner (λ x. x.writers) a.0 (length ws.entries)) w.0 w.1;
      readers = nothing_is EndpointOwner (index_path (codes "readers")) (without_owner (λ x. x.readers) a.0 (length rs.entries)) r.0 r.1;
    })

module _ (d : Lists) (ps : length d.participants.names ≡ length d.participants.entries) (read : ApplicationsRead d.participants d.writers d.readers d.applications) where
  fits_at : (k : ℕ) (a : Application) → slice_get d.applications.entries k ≡ Some a → ApplicationFits d.participants d.writers d.readers (take k d.applications.entries) a
  fits_at k a at =
      let one = read.list.each_after k a at in
      subst (λ others. ApplicationFits d.participants d.writers d.readers others a) one.1 (fields_fit d.participants d.writers d.readers ps one.0 one.2.0 one.2.1 a one.2.2)

  pub application_fits : length d.writers.names ≡ length d.writers.entries → length d.readers.names ≡ length d.readers.entries → (before : Listed Application) (a : Application) → IsApplicationRead d.participants d.writers d.readers before a → IsApplicationOf d a
  application_fits ws rs before a h =
      let fits = fields_fit d.participants d.writers d.readers ps before h.0 h.1 a h.2 in
      record {
        participant = fits.participant;
        writers = subst (λ n. All (λ w. w < n) a.writers) ws fits.writers.below;
        readers = subst (λ n. All (λ r. r < n) a.readers) rs fits.readers.below;
        distinct_writers = fits.writers.distinct;
        distinct_readers = fits.readers.distinct;
      }

  pub writer_owned : (n : ℕ) (w : Writer) → slice_get d.writers.entries n ≡ Some w → IsOwnedOnce (λ a. a.writers) d.applications w.participant n
  writer_owned n w at =
      owned_once (λ a. a.writers) (writer_participant d.writers) (length d.writers.names) d.applications (λ k x h. (fits_at k x h).writers) n w.participant
      (ap (λ o. unwrap_or (option_map (λ (x : Writer). x.participant) o) 0) at)
      (has_owner (λ a. a.writers) d.applications (length d.writers.entries) read.writers n (slice_get_within d.writers.entries n w at))

  pub reader_owned : (n : ℕ) (r : Reader) → slice_get d.readers.entries n ≡ Some r → IsOwnedOnce (λ a. a.readers) d.applications r.participant n
  reader_owned n r at =
      owned_once (λ a. a.readers) (reader_participant d.readers) (length d.readers.names) d.applications (λ k x h. (fits_at k x h).readers) n r.participant
      (ap (λ o. unwrap_or (option_map (λ (x : Reader). x.participant) o) 0) at)
      (has_owner (λ a. a.readers) d.applications (length d.readers.entries) read.readers n (slice_get_within d.readers.entries n r at))
