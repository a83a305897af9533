-- The keys of an entry are the endpoint's own, and none stands twice.
use Rattle.std.proofs.Common.{ℕ, zero, suc, ◌≡◌, ◌+◌, ◌<◌, ◌≤◌, ◌&&◌, ◌==◌, not, Bool, true, false, nat_lt, List, [], ◌∷◌, ◌++◌, length, map, take, get_or, refl, sym, ap, ◌∙◌, subst, arith, Option, Some, None, slice_get, unwrap_or, option_map, Ok, codes, if◌then◌else◌}
use Rattle.std.specs.List.{list_any, list_all, range_with_len}
use Rattle.std.proofs.lemmas.Bool.{eq-eqb, ne_eqb}
use Rattle.std.proofs.lemmas.Bool.Decides.{nat_tests}
use Rattle.std.proofs.lemmas.Option.{slice_get_within, get_or_from_slice_get}
use Rattle.std.proofs.lemmas.List.{map-append}
use Rattle.std.proofs.lemmas.List.Folds.{list_any-append}
use Rattle.toml.specs.Data.{Data, Members, get_member}
use Rattle.dds_base.proofs.Bools.{both_parts, is_not, neither, or_true}
use Rattle.dds_base.specs.Names.{number_of}
use Rattle.dds_fields.specs.declared.fault.FaultKind.TheVariants.{UnknownName}
use Rattle.dds_fields.specs.Paths.{key_path}
use Rattle.dds_base.specs.Pairs.{stands}
use Rattle.dds_fields.specs.Reading.{Read, ◌>>=◌, or_fault, a_name, a_known_name, field, optional, where_present}
use Rattle.dds_base.proofs.Lists.{list_any-map}
use Rattle.dds_fields.proofs.Laws.{bind_ok, ok_is, found_is, known_within, field_is}
use Rattle.dds_fields.proofs.Passing.{none_pass}
use Rattle.dds_lists.specs.Lists.{Writer, Reader, Lists, keys_at, all_keys}
use Rattle.dds_lists.specs.WellFormed.{filter_at, writer_key_count, AreDistinctBy, NamesOnce}
use Rattle.dds_match.specs.Plan.{hears, writes_key}
use Rattle.dds_weights.specs.Fits.{is_distinct, keys_differ}
use Rattle.dds_weights.specs.Named.{same_place}
use Rattle.dds_text.specs.Names.{writer_keys, reader_keys}
use Rattle.dds_cert.specs.Keys.{passing, heard_key, a_heard_key, one_key, keys_of_entry, reader_and_keys, writer_and_keys}
use Rattle.dds_cert.specs.Adding.{any_stands}
use Rattle.dds_weights.proofs.DistinctLaws.{not_before, is_distinct-append}

-- the endpoint has each of the keys, and none stands twice
pub record AreKeys (has_key : ℕ → Bool) (ks : List ℕ) : Type 0 where
  pub had : list_all has_key ks ≡ true
  pub differ : keys_differ ks ≡ true

-- ── a filter and the keys of a topic
-- a key that stands in the list has what all that stand there have
had_by_all : (has_key : ℕ → Bool) (ks : List ℕ) → ((k : ℕ) → list_any (λ y. y == k) ks ≡ true → has_key k ≡ true) → list_all has_key ks ≡ true
had_by_all has_key [] h = refl
had_by_all has_key (k ∷ ks) h =
    let here : has_key k ≡ true = h k (rw (eq-eqb k k refl) refl) in
    let rest : list_all has_key ks ≡ true = had_by_all has_key ks (λ j e. h j (rw e (or_true (k == j)))) in
    rw (here, rest) refl

none_is : (x : ℕ) (xs : List ℕ) → ((j d : ℕ) → j < length xs → get_or xs j d ≡ x → ⊥) → list_any (λ y. y == x) xs ≡ false
none_is x [] h = refl
none_is x (y ∷ ys) h =
    let here : (y == x) ≡ false = ne_eqb y x (h 0 x (omega arith)) in
    rw (here, none_is x ys (λ j d lt e. h (suc j) d (omega (arith, lt)) e)) refl

distinct_differ : (ks : List ℕ) → AreDistinctBy (λ k. k) ks → keys_differ ks ≡ true
distinct_differ [] h = refl
distinct_differ (k ∷ ks) h =
    let here : list_any (λ y. y == k) ks ≡ false = none_is k ks (λ j d lt e. absurd (omega (arith, h (suc j) 0 d (omega (arith, lt)) (omega arith) e))) in
    let rest = distinct_differ ks (λ i j d a b e. let same = h (suc i) (suc j) d (omega (arith, a)) (omega (arith, b)) e in omega (arith, same)) in
    rw (here, rest) refl

filter_keys : (d : Lists) (r : ℕ) → NamesOnce d → AreKeys (hears d r) (filter_at d.readers r)
filter_keys d r once = record {
  had = had_by_all (hears d r) (filter_at d.readers r) (λ k e. e);
  differ = by (slice_get d.readers.entries r) refl;
}
  where
    by : (o : Option Reader) → slice_get d.readers.entries r ≡ o → keys_differ (unwrap_or (option_map (λ (x : Reader). x.filter) o) []) ≡ true
    by None e = refl
    by (Some x) e =
        let within = slice_get_within d.readers.entries r x e in
        distinct_differ x.filter (subst (λ (y : Reader). AreDistinctBy (λ k. k) y.filter) (get_or_from_slice_get d.readers.entries r x x e) (once.filters r x within))

pub lt_true : (x y : ℕ) → x < y → nat_lt x y ≡ true
lt_true x y h = grind (arith, nat_tests)

range_below : (a m n : ℕ) → a + m ≤ n → list_all (λ k. nat_lt k n) (range_with_len a m) ≡ true
range_below a zero n h = refl
range_below a (suc m) n h = rw (lt_true a n (omega arith), range_below (a + 1) m n (omega arith)) refl

range_above : (a b m : ℕ) → a < b → list_any (λ y. y == a) (range_with_len b m) ≡ false
range_above a b zero h = refl
range_above a b (suc m) h = rw (ne_eqb b a (λ e. omega (arith, e)), range_above a (b + 1) m (omega arith)) refl

range_differ : (a m : ℕ) → keys_differ (range_with_len a m) ≡ true
range_differ a zero = refl
range_differ a (suc m) = rw (range_above a (a + 1) m (omega arith), range_differ (a + 1) m) refl

writer_keys_count : (d : Lists) (w : ℕ) → length (writer_keys d w) ≡ writer_key_count d w
writer_keys_count d w = by (slice_get d.writers.entries w)
  where
    by : (o : Option Writer) → length (unwrap_or (option_map (λ (x : Writer). keys_at d.topics x.topic) o) []) ≡ unwrap_or (option_map (λ (x : Writer). length (keys_at d.topics x.topic)) o) 0
    by None = refl
    by (Some x) = refl

topic_keys : (d : Lists) (w : ℕ) → AreKeys (writes_key d w) (all_keys (writer_keys d w))
topic_keys d w = record {
  had = subst (λ n. list_all (λ k. nat_lt k n) (range_with_len 0 (length (writer_keys d w))) ≡ true) (writer_keys_count d w) (range_below 0 (length (writer_keys d w)) (length (writer_keys d w)) (omega arith));
  differ = range_differ 0 (length (writer_keys d w));
}

-- ── what is read
one_had : (has_key : ℕ → Bool) (k : ℕ) → has_key k ≡ true → AreKeys has_key (k ∷ [])
one_had has_key k h = record { had = rw h refl; differ = refl }

pub present : {A : Type 0} (P : A → Type 0) (missing : A) (read : Data → Read A) (o : Option Data) (x : A) → where_present missing read o ≡ Ok x → P missing → ((d : Data) → read d ≡ Ok x → P x) → P x
present P missing read None x e m h = subst P (ok_is missing x e) m
present P missing read (Some d) x e m h = h d e

pub optional_keeps : {A : Type 0} (P : A → Type 0) (key : List ℕ) (missing : A) (read : List ℕ → Data → Read A) (path : List ℕ) (ms : Members) (x : A) → optional key missing read path ms ≡ Ok x → P missing → ((p : List ℕ) (d : Data) → read p d ≡ Ok x → P x) → P x
unfolding optional
optional_keeps P key missing read path ms x e m h = present P missing (read (key_path path key)) (get_member key ms) x e m (h (key_path path key))

one_key_is : (P : List ℕ → Type 0) (a_key : List ℕ → Data → Read ℕ) (path : List ℕ) (x : Data) (ks : List ℕ) → one_key a_key path x ≡ Ok ks → ((p : List ℕ) (y : Data) (k : ℕ) → a_key p y ≡ Ok k → P (k ∷ [])) → P ks
unfolding one_key
one_key_is P a_key path x ks e one =
    let a = bind_ok (a_key path x) (λ k. Ok (k ∷ [])) ks e in
    subst P (ok_is (a.0 ∷ []) ks a.2) (one path x a.0 a.1)

keys_of_entry_are : (P : List ℕ → Type 0) (version : ℕ) (all : List ℕ) (a_key : List ℕ → Data → Read ℕ) (path : List ℕ) (ms : Members) (ks : List ℕ) → keys_of_entry version all a_key path ms ≡ Ok ks → P all → ((p : List ℕ) (y : Data) (k : ℕ) → a_key p y ≡ Ok k → P (k ∷ [])) → P ks
unfolding keys_of_entry
keys_of_entry_are P version all a_key path ms ks e h one = by (version == 1) e
  where
    by : (b : Bool) → (if b then field (codes "key") (one_key a_key) path ms else optional (codes "key") all (one_key a_key) path ms) ≡ Ok ks → P ks
    by true q = let f = field_is (codes "key") (one_key a_key) path ms ks q in one_key_is P a_key (key_path path (codes "key")) f.0 ks f.1 one
    by false q = optional_keeps P (codes "key") all (one_key a_key) path ms ks q h (λ p y z. one_key_is P a_key p y ks z one)

passing_is : (test : ℕ → Bool) (o : Option ℕ) (k : ℕ) → passing test o ≡ Some k → test k ≡ true
passing_is test None k e = absurd cc
passing_is test (Some j) k e = by (test j) refl e
  where
    by : (b : Bool) → test j ≡ b → (if b then Some j else None) ≡ Some k → test k ≡ true
    by true t q = let same : j ≡ k = cc in subst (λ n. test n ≡ true) same t
    by false t q = absurd cc

heard_key_is : (d : Lists) (r : ℕ) (path : List ℕ) (x : Data) (k : ℕ) → a_heard_key d r path x ≡ Ok k → hears d r k ≡ true
unfolding a_heard_key
heard_key_is d r path x k e =
    let a = bind_ok (a_name path x) (λ name. or_fault UnknownName path (heard_key d r name)) k e in
    passing_is (hears d r) (number_of (reader_keys d r) a.0) k (found_is UnknownName path (heard_key d r a.0) k a.2)

pub reader_and_keys_are : (version : ℕ) (d : Lists) (path : List ℕ) (ms : Members) (e : ℕ × List ℕ) → NamesOnce d → reader_and_keys version d path ms ≡ Ok e → AreKeys (hears d e.0) e.1
unfolding reader_and_keys
reader_and_keys_are version d path ms e once q =
    let a = bind_ok (field (codes "reader") (a_known_name d.readers.names) path ms) (λ r. keys_of_entry version (filter_at d.readers r) (a_heard_key d r) path ms >>= λ ks. Ok (r, ks)) e q in
    let b = bind_ok (keys_of_entry version (filter_at d.readers a.0) (a_heard_key d a.0) path ms) (λ ks. Ok (a.0, ks)) e a.2 in
    let found = keys_of_entry_are (AreKeys (hears d a.0)) version (filter_at d.readers a.0) (a_heard_key d a.0) path ms b.0 b.1 (filter_keys d a.0 once) (λ p y k z. one_had (hears d a.0) k (heard_key_is d a.0 p y k z)) in
    subst (λ z. AreKeys (hears d z.0) z.1) (ok_is (a.0, b.0) e b.2) found

written_key_is : (d : Lists) (w : ℕ) (path : List ℕ) (x : Data) (k : ℕ) → a_known_name (writer_keys d w) path x ≡ Ok k → writes_key d w k ≡ true
written_key_is d w path x k e = lt_true k (writer_key_count d w) (subst (λ n. k < n) (writer_keys_count d w) (known_within (writer_keys d w) path x k e))

pub writer_and_keys_are : (version : ℕ) (d : Lists) (path : List ℕ) (ms : Members) (e : ℕ × List ℕ) → writer_and_keys version d path ms ≡ Ok e → AreKeys (writes_key d e.0) e.1
unfolding writer_and_keys
writer_and_keys_are version d path ms e q =
    let a = bind_ok (field (codes "writer") (a_known_name d.writers.names) path ms) (λ w. keys_of_entry version (all_keys (writer_keys d w)) (a_known_name (writer_keys d w)) path ms >>= λ ks. Ok (w, ks)) e q in
    let b = bind_ok (keys_of_entry version (all_keys (writer_keys d a.0)) (a_known_name (writer_keys d a.0)) path ms) (λ ks. Ok (a.0, ks)) e a.2 in
    let found = keys_of_entry_are (AreKeys (writes_key d a.0)) version (all_keys (writer_keys d a.0)) (a_known_name (writer_keys d a.0)) path ms b.0 b.1 (topic_keys d a.0) (λ p y k z. one_had (writes_key d a.0) k (written_key_is d a.0 p y k z)) in
    subst (λ z. AreKeys (writes_key d z.0) z.1) (ok_is (a.0, b.0) e b.2) found

-- ── the pairs of an endpoint and the keys, added one after the other
stands_with : (e k : ℕ) (ks : List ℕ) → stands (map (λ j. (e, j)) ks) e k ≡ list_any (λ y. k == y) ks
stands_with e k ks = list_any-map (λ p. e == p.0 && k == p.1) (λ j. (e, j)) ks ∙ rw (eq-eqb e e refl) refl

not_there : (pairs : List (ℕ × ℕ)) (e : ℕ) (ks : List ℕ) (i k : ℕ) → any_stands pairs e ks ≡ false → keys_differ ks ≡ true → i < length ks → k ≡ get_or ks i k → stands (pairs ++ map (λ j. (e, j)) (take i ks)) e k ≡ false
not_there pairs e ks i k new differ lt at =
    let before : stands pairs e k ≡ false = subst (λ z. stands pairs e z ≡ false) (sym at) (none_pass (λ j. stands pairs e j) ks new i k lt) in
    let earlier : stands (map (λ j. (e, j)) (take i ks)) e k ≡ false = stands_with e k (take i ks) ∙ not_before (λ x y. y == x) ks i k lt at differ in
    list_any-append (λ p. e == p.0 && k == p.1) pairs (map (λ j. (e, j)) (take i ks)) ∙ rw (before, earlier) refl

-- ── an endpoint with its keys at the end of a list that names none of them
module _ {X : Type 0} (place : X → ℕ × ℕ) (e : ℕ) (make : ℕ → X) (at : (k : ℕ) → place (make k) ≡ (e, k)) where
  is_same : (x : X) (k : ℕ) → same_place place x (make k) ≡ (e == (place x).0 && k == (place x).1)
  is_same x k = rw (at k) refl

  none_same : (k : ℕ) (ks : List ℕ) → list_any (λ y. y == k) ks ≡ false → list_any (same_place place (make k)) (map make ks) ≡ false
  none_same k [] h = refl
  none_same k (j ∷ js) h =
      let both = neither (j == k) (list_any (λ y. y == k) js) h in
      let here : same_place place (make k) (make j) ≡ false = is_same (make k) j ∙ rw (at k, eq-eqb e e refl) both.0 in
      rw (here, none_same k js both.1) refl

  made_differ : (ks : List ℕ) → keys_differ ks ≡ true → is_distinct (same_place place) (map make ks) ≡ true
  made_differ [] h = refl
  made_differ (k ∷ ks) h =
      let both = both_parts (not (list_any (λ y. y == k) ks)) (keys_differ ks) h in
      rw (none_same k ks (is_not (list_any (λ y. y == k) ks) both.0), made_differ ks both.1) refl

  made_new : (before : List X) (ks : List ℕ) → any_stands (map place before) e ks ≡ false → list_any (λ y. list_any (λ x. same_place place x y) before) (map make ks) ≡ false
  made_new before [] h = refl
  made_new before (k ∷ ks) h =
      let both = neither (stands (map place before) e k) (any_stands (map place before) e ks) h in
      let same : list_any (λ x. same_place place x (make k)) before ≡ stands (map place before) e k = simp is_same (sym (list_any-map (λ p. e == p.0 && k == p.1) place before)) in
      rw (same ∙ both.0, made_new before ks both.1) refl

  pub made_distinct : (before : List X) (ks : List ℕ) → is_distinct (same_place place) before ≡ true → keys_differ ks ≡ true → any_stands (map place before) e ks ≡ false → is_distinct (same_place place) (before ++ map make ks) ≡ true
  made_distinct before ks d k n = is_distinct-append (same_place place) before (map make ks) d (made_differ ks k) (made_new before ks n)

  pairs_made : (ks : List ℕ) → map place (map make ks) ≡ map (λ k. (e, k)) ks
  pairs_made [] = refl
  pairs_made (k ∷ ks) = rw (at k, pairs_made ks) refl

  places_added : (xs : List X) (ks : List ℕ) → map place (xs ++ map make ks) ≡ map place xs ++ map (λ k. (e, k)) ks
  places_added xs ks = map-append place xs (map make ks) ∙ ap (λ ps. map place xs ++ ps) (pairs_made ks)

  -- the next of the keys is not named after those before it
  pub not_placed : (before : List X) (ks : List ℕ) (i k : ℕ) → any_stands (map place before) e ks ≡ false → keys_differ ks ≡ true → i < length ks → k ≡ get_or ks i k → stands (map place (before ++ map make (take i ks))) e k ≡ false
  not_placed before ks i k new differ lt at_i = ap (λ ps. stands ps e k) (places_added before (take i ks)) ∙ not_there (map place before) e ks i k new differ lt at_i
