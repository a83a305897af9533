-- The keys that endpoints have are within the table.
use Rattle.std.proofs.Common.{ℕ, ◌≡◌, ◌<◌, ◌≤◌, ◌&&◌, ◌||◌, Bool, true, false, nat_lt, List, [], ◌∷◌, All, length, get_or, zero, suc, refl, sym, ◌∙◌, subst, arith, Option, Some, None, slice_get, unwrap_or, option_map, ◌==◌, map, string_bytes}
use Rattle.std.specs.List.{list_any, list_all}
use Rattle.std.proofs.lemmas.Bool.{ltb-true}
use Rattle.std.proofs.lemmas.Option.{slice_get_within, get_or_from_slice_get}
use Rattle.std.proofs.lemmas.Bool.Decides.{nat_tests}
use Rattle.std.proofs.lemmas.List.Folds.{list_all-map}
use Rattle.std.specs.Str.{bytes_eq}
use Rattle.dds_weights.specs.declared.certificate.Row.{Row as CodeRow}
use Rattle.dds_weights.specs.Lists.{Row}
use Rattle.dds_match.specs.Network.{Network}
use Rattle.dds_weights.specs.Fits.{is_distinct, names_differ, row_fits}
use Rattle.dds_weights.specs.Views.{row_view}
use Rattle.dds_weights.proofs.DistinctLaws.{is_distinct-map}
use Rattle.dds_lists.specs.Lists.{Topic, Writer, Reader, Lists, keys_at}
use Rattle.dds_lists.specs.WellFormed.{IsWellFormed, IsReaderOf, IsWriterOf}
use Rattle.dds_match.specs.Plan.{hears, writes_key}
use Rattle.dds_weights.specs.declared.certificate.Weight.{Weight}
use Rattle.dds_weights.specs.declared.certificate.Bound.{Bound}
use Rattle.dds_weights.specs.Named.{IsWithin, bound_place}

pub first_of_both : (b c : Bool) → (b && c) ≡ true → b ≡ true
first_of_both true c h = refl
first_of_both false c h = h

pub second_of_both : (b c : Bool) → (b && c) ≡ true → c ≡ true
second_of_both true c h = h
second_of_both false c h = absurd cc

-- each element by a test that all pass
All_by : {X : Type 0} (f : X → Bool) (P : X → Type 0) (xs : List X) → ((x : X) → f x ≡ true → P x) → list_all f xs ≡ true → All P xs
All_by f P [] h e = λ i x l. absurd (omega arith)
All_by f P (x ∷ xs) h e =
    let rest = All_by f P xs h (second_of_both (f x) (list_all f xs) e) in
    λ i y l. go rest i y l
  where
    go : All P xs → (i : ℕ) (y : _) → i < suc (length xs) → P (get_or (x ∷ xs) i y)
    go rest zero y l = h x (first_of_both (f x) (list_all f xs) e)
    go rest (suc i) y l = rest i y (omega arith)

lt_of : (x y : ℕ) → nat_lt x y ≡ true → x < y
lt_of x y h = ltb-true x y h

eq_of : (x y : ℕ) → (x == y) ≡ true → x ≡ y
eq_of x y h = grind (arith, nat_tests)

-- the entry at a place meets what all meet
at_place : {X : Type 0} (P : X → Type 0) (xs : List X) (i : ℕ) (x : X) → All P xs → slice_get xs i ≡ Some x → (i < length xs) × P x
at_place P xs i x all e =
    let within : i < length xs = slice_get_within xs i x e in
    (within, subst P (get_or_from_slice_get xs i x x e) (all i x within))

pub keys_few : (d : Lists) (t : ℕ) → IsWellFormed d → length (keys_at d.topics t) ≤ 64
keys_few d t w = by (slice_get d.topics.entries t) refl
  where
    by : (o : Option Topic) → slice_get d.topics.entries t ≡ o → length (unwrap_or (option_map (λ (x : Topic). x.keys) o) []) ≤ 64
    by None e = omega arith
    by (Some x) e = (at_place (λ (y : Topic). length y.keys ≤ 64) d.topics.entries t x w.few_keys e).1

-- one of the numbers is k, and all are below n
number_below : (k n : ℕ) (xs : List ℕ) → All (λ m. m < n) xs → list_any (λ y. y == k) xs ≡ true → k < n
number_below k n [] all h = absurd cc
number_below k n (x ∷ xs) all h = by (x == k) refl h (number_below k n xs (λ i d l. all (suc i) d (omega arith)))
  where
    by : (b : Bool) → (x == k) ≡ b → (b || list_any (λ y. y == k) xs) ≡ true → (list_any (λ y. y == k) xs ≡ true → k < n) → k < n
    by true e h rest = let here : x < n = all 0 x (omega arith) in let same = eq_of x k e in omega arith
    by false e h rest = rest h

heard_within : (d : Lists) (r k : ℕ) → IsWellFormed d → hears d r k ≡ true → IsWithin (r, k)
heard_within d r k w h = by (slice_get d.readers.entries r) refl h
  where
    by : (o : Option Reader) → slice_get d.readers.entries r ≡ o → list_any (λ y. y == k) (unwrap_or (option_map (λ (x : Reader). x.filter) o) []) ≡ true → IsWithin (r, k)
    by None e h = absurd cc
    by (Some x) e h =
        let here = at_place (IsReaderOf d) d.readers.entries r x w.each_reader e in
        let inside = here.0 in let few = w.readers.few in
        let below = number_below k (length (keys_at d.topics x.topic)) x.filter here.1.filter h in
        let keys = keys_few d x.topic w in
        (omega arith, omega arith)

written_within : (d : Lists) (e k : ℕ) → IsWellFormed d → writes_key d e k ≡ true → IsWithin (e, k)
written_within d e k w h = by (slice_get d.writers.entries e) refl h
  where
    by : (o : Option Writer) → slice_get d.writers.entries e ≡ o → nat_lt k (unwrap_or (option_map (λ (x : Writer). length (keys_at d.topics x.topic)) o) 0) ≡ true → IsWithin (e, k)
    by None q h = let none = lt_of k 0 h in absurd (omega arith)
    by (Some x) q h =
        let here = at_place (IsWriterOf d) d.writers.entries e x w.each_writer q in
        let inside = here.0 in let few = w.writers.few in
        let below = lt_of k (length (keys_at d.topics x.topic)) h in
        let keys = keys_few d x.topic w in
        (omega arith, omega arith)

pub weights_heard_within : (d : Lists) (xs : List (Weight ℕ)) → IsWellFormed d → list_all (λ x. hears d x.endpoint x.key) xs ≡ true → All (λ x. IsWithin (x.endpoint, x.key)) xs
weights_heard_within d xs w h = All_by (λ x. hears d x.endpoint x.key) (λ x. IsWithin (x.endpoint, x.key)) xs (λ x e. heard_within d x.endpoint x.key w e) h

pub weights_written_within : (d : Lists) (xs : List (Weight ℕ)) → IsWellFormed d → list_all (λ x. writes_key d x.endpoint x.key) xs ≡ true → All (λ x. IsWithin (x.endpoint, x.key)) xs
weights_written_within d xs w h = All_by (λ x. writes_key d x.endpoint x.key) (λ x. IsWithin (x.endpoint, x.key)) xs (λ x e. written_within d x.endpoint x.key w e) h

pub bounds_heard_within : (d : Lists) (rows : ℕ) (bs : List Bound) → IsWellFormed d → list_all (λ b. hears d b.reader b.key && nat_lt b.row rows) bs ≡ true → All (λ b. IsWithin (bound_place b)) bs
bounds_heard_within d rows bs w h =
    All_by (λ b. hears d b.reader b.key && nat_lt b.row rows) (λ b. IsWithin (bound_place b)) bs (λ b e. heard_within d b.reader b.key w (first_of_both (hears d b.reader b.key) (nat_lt b.row rows) e)) h

-- the names of the rows of the code
pub names_differ-view : (rows : List CodeRow) → names_differ (map row_view rows) ≡ is_distinct (λ x y. bytes_eq (string_bytes y.name) (string_bytes x.name)) rows
names_differ-view rows =
    is_distinct-map (λ x y. bytes_eq y x) (λ (r : Row). r.name) (map row_view rows)
    ∙ is_distinct-map (λ (x : Row) (y : Row). bytes_eq y.name x.name) row_view rows

pub rows_fit_view : (net : Network) (rows : List CodeRow) → list_all (λ r. row_fits net (row_view r)) rows ≡ list_all (row_fits net) (map row_view rows)
rows_fit_view net rows = sym (list_all-map (row_fits net) row_view rows)
