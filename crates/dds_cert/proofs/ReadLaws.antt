-- What is read fits.
use Rattle.std.proofs.Common.{ℕ, ◌≡◌, ◌+◌, ◌<◌, ◌≤◌, ◌&&◌, ◌==◌, not, is_some, Bool, true, false, nat_lt, nat_le, List, [], ◌∷◌, ◌++◌, length, map, refl, sym, ap, ◌∙◌, subst, arith, Option, Some, None, Ok, codes, length-append}
use Rattle.std.specs.List.{list_any, list_all}
use Rattle.std.specs.Str.{bytes_eq}
use Rattle.std.proofs.lemmas.Bool.Decides.{nat_tests}
use Rattle.std.proofs.lemmas.List.{map_push, length-map}
use Rattle.std.proofs.lemmas.List.Folds.{list_all-append, list_all-map}
use Rattle.toml.specs.Data.{Data, Items, no_items, item, Members, get_member}
use Rattle.dds_base.proofs.Bools.{is_not}
use Rattle.dds_base.specs.Names.{number_of}
use Rattle.dds_base.proofs.Places.{absent}
use Rattle.dds_fields.specs.declared.fault.FaultKind.{FaultKind}
use Rattle.dds_fields.specs.declared.fault.FaultKind.TheVariants.{Duplicate, TooMany, NotToml}
use Rattle.dds_fields.specs.Paths.{key_path, index_path}
use Rattle.dds_fields.specs.Document.{document}
use Rattle.dds_fields.specs.Reading.{Read, ◌>>=◌, or_fault, unless, an_array, a_name, a_new_name, a_known_name, field, optional, entry, an_array_of, section, a_list_of, a_section, each, count}
use Rattle.dds_fields.proofs.Laws.{bind_ok, ok_is, each-keeps, known_within, field_is}
use Rattle.dds_lists.specs.Lists.{Lists}
use Rattle.dds_lists.specs.WellFormed.{IsWellFormed, NamesOnce}
use Rattle.dds_match.specs.Plan.{hears, writes_key, network_of}
use Rattle.dds_weights.specs.declared.certificate.Weight.{Weight}
use Rattle.dds_weights.specs.declared.certificate.Bound.{Bound}
use Rattle.dds_weights.specs.declared.certificate.Total.{Total}
use Rattle.dds_weights.specs.Lists.{Row, Certificate}
use Rattle.dds_weights.specs.Fits.{is_distinct, weights_fit, row_fits, names_differ, rows_fit, bounds_fit, totals_fit, fits}
use Rattle.dds_cert.specs.Keys.{reader_and_keys, writer_and_keys}
use Rattle.dds_cert.specs.Adding.{any_stands, may_add, and_more}
use Rattle.dds_cert.specs.Weights.{weight_number, weight_place, weights_of, and_weights, weight, weights, reader_weights, writer_weights}
use Rattle.dds_cert.specs.Rows.{row_names, row_entry, row_lists, row, rows}
use Rattle.dds_cert.specs.Bounds.{bound_entry, row_and_bound, bound_number, bounds_of, bound, bounds}
use Rattle.dds_cert.specs.Totals.{total_entry, total, totals}
use Rattle.dds_cert.specs.Document.{head, certificate, read}
use Rattle.dds_weights.specs.Named.{bound_place, has_total}
use Rattle.dds_weights.specs.Order.{in_order}
use Rattle.dds_weights.proofs.OrderLaws.{in_order_fits}
use Rattle.dds_weights.proofs.DistinctLaws.{is_distinct-push}
use Rattle.dds_weights.proofs.FitLaws.{first_of_both, second_of_both}
use Rattle.dds_cert.proofs.KeyLaws.{AreKeys, lt_true, present, optional_keeps, reader_and_keys_are, writer_and_keys_are, made_distinct}

-- ── tests
both : (b c : Bool) → b ≡ true → c ≡ true → (b && c) ≡ true
both b c h k = rw (h, k)

and_true : (b : Bool) → (b && true) ≡ b
and_true true = refl
and_true false = refl

le_true : (x y : ℕ) → x ≤ y → nat_le x y ≡ true
le_true x y h = grind (arith, nat_tests)

le_of : (x y : ℕ) → nat_le x y ≡ true → x ≤ y
le_of x y h = grind (arith, nat_tests)

none_of : {A : Type 0} (o : Option A) → is_some o ≡ false → o ≡ None
none_of None h = refl
none_of (Some x) h = absurd cc

-- ── steps of reading
tested_is : {A : Type 0} (kind : FaultKind) (path : List ℕ) (b : Bool) (x y : A) → unless kind path b x ≡ Ok y → (b ≡ true) × (x ≡ y)
tested_is kind path true x y e = (refl, ok_is x y e)
tested_is kind path false x y e = absurd cc

array_few : (limit : ℕ) (path : List ℕ) (d : Data) (xs : Items) → an_array_of limit path d ≡ Ok xs → count xs ≤ limit
unfolding an_array_of
array_few limit path d xs e =
    let a = bind_ok (an_array path d) (λ ds. unless TooMany path (nat_le (count ds) limit) ds) xs e in
    let t = tested_is TooMany path (nat_le (count a.0) limit) a.0 xs a.2 in
    subst (λ ys. count ys ≤ limit) t.1 (le_of (count a.0) limit t.0)

section_few : (key : List ℕ) (limit : ℕ) (ms : Members) (xs : Items) → section key limit ms ≡ Ok xs → count xs ≤ limit
unfolding section
section_few key limit ms xs e = present (λ ys. count ys ≤ limit) no_items (an_array_of limit key) (get_member key ms) xs e (omega arith) (λ d q. array_few limit key d xs q)

-- where each item adds one, there are as many as items
each_adds : {A : Type 0} (read : List A → List ℕ → Data → Read (List A)) (path : List ℕ) → ((s t : List A) (p : List ℕ) (d : Data) → read s p d ≡ Ok t → length t ≡ length s + 1) → (i : ℕ) (s : List A) (ds : Items) (t : List A) → each read path i s ds ≡ Ok t → length t ≡ length s + count ds
each_adds read path step i s no_items t e = ap length (sym (ok_is s t e)) ∙ omega arith
each_adds read path step i s (item d ds) t e =
    let a = bind_ok (read s (index_path path i) d) (λ u. each read path (i + 1) u ds) t e in
    let here = step s a.0 (index_path path i) d a.1 in
    let rest = each_adds read path step (i + 1) a.0 ds t a.2 in
    omega arith

-- ── names
known_field_within : (key : List ℕ) (names : List (List ℕ)) (path : List ℕ) (ms : Members) (n : ℕ) → field key (a_known_name names) path ms ≡ Ok n → n < length names
known_field_within key names path ms n e = let f = field_is key (a_known_name names) path ms n e in known_within names (key_path path key) f.0 n f.1

-- ── weights
may_add_is : (list path : List ℕ) (is_double : Bool) (count : ℕ) (u : Unit {0}) → may_add list path is_double count ≡ Ok u → is_double ≡ false
unfolding may_add
may_add_is list path is_double count u q =
    let a = bind_ok (unless Duplicate path (not is_double) (tt {0})) (λ _. unless TooMany list (nat_le count 16384) (tt {0})) u q in
    is_not is_double (tested_is Duplicate path (not is_double) (tt {0}) a.0 a.1).0

and_more_is : {A : Type 0} (list path : List ℕ) (is_double : Bool) (before more after : List A) → and_more list path is_double before more ≡ Ok after → (is_double ≡ false) × (before ++ more ≡ after)
unfolding and_more
and_more_is list path is_double before more after q =
    let a = bind_ok (may_add list path is_double (length before + length more)) (λ _. Ok (before ++ more)) after q in
    (may_add_is list path is_double (length before + length more) a.0 a.1, ok_is (before ++ more) after a.2)

weights_push : (has_key : ℕ → ℕ → Bool) (list : List ℕ) (before after : List (Weight ℕ)) (path : List ℕ) (e : ℕ × List ℕ) (n : ℕ) → weights_fit has_key before ≡ true → AreKeys (has_key e.0) e.1 → and_weights (λ m. m) list before path e n ≡ Ok after → weights_fit has_key after ≡ true
weights_push has_key list before after path e n fit keys q =
    let make : ℕ → Weight ℕ = λ k. record { endpoint = e.0; key = k; weight = n } in
    let t = and_more_is list path (any_stands (map (weight_place (λ m. m)) before) e.0 e.1) before (weights_of e n) after q in
    let test : Weight ℕ → Bool = λ y. has_key y.endpoint y.key in
    let had : list_all test (before ++ map make e.1) ≡ true = list_all-append test before (map make e.1) ∙ both _ _ (first_of_both _ _ fit) (list_all-map test make e.1 ∙ keys.had) in
    let distinct = made_distinct (weight_place (λ m. m)) e.0 make (λ k. refl) before e.1 (second_of_both _ _ fit) keys.differ t.0 in
    subst (λ ys. weights_fit has_key ys ≡ true) t.1 (both _ _ had distinct)

-- weights at endpoints that `word` names, where the fields for such an endpoint and its keys give keys that it has
module _ (has_key : ℕ → ℕ → Bool) (word : List ℕ) (endpoint_and_keys : List ℕ → Members → Read (ℕ × List ℕ)) (h : (path : List ℕ) (ms : Members) (e : ℕ × List ℕ) → endpoint_and_keys path ms ≡ Ok e → AreKeys (has_key e.0) e.1) where
  weight_keeps : (list : List ℕ) (before after : List (Weight ℕ)) (path : List ℕ) (x : Data) → weights_fit has_key before ≡ true → weight (λ m. m) word endpoint_and_keys list before path x ≡ Ok after → weights_fit has_key after ≡ true
  unfolding weight
  weight_keeps list before after path x fit q =
      let a = bind_ok (entry (word ∷ codes "key" ∷ codes "weight" ∷ []) path x) (λ ms. endpoint_and_keys path ms >>= λ e. weight_number path ms >>= λ n. and_weights (λ m. m) list before path e n) after q in
      let b = bind_ok (endpoint_and_keys path a.0) (λ e. weight_number path a.0 >>= λ n. and_weights (λ m. m) list before path e n) after a.2 in
      let c = bind_ok (weight_number path a.0) (λ n. and_weights (λ m. m) list before path b.0 n) after b.2 in
      weights_push has_key list before after path b.0 c.0 fit (h path a.0 b.0 b.1) c.2

  weights_read_fit : (path : List ℕ) (x : Data) (ws : List (Weight ℕ)) → weights (λ m. m) word endpoint_and_keys path x ≡ Ok ws → weights_fit has_key ws ≡ true
  unfolding a_list_of
  weights_read_fit path x ws q =
      let read = weight (λ m. m) word endpoint_and_keys path in
      let a = bind_ok (an_array_of 16384 path x) (λ xs. each read path 0 [] xs) ws q in
      each-keeps read path (λ ys. weights_fit has_key ys ≡ true) (λ s t p y fit e. weight_keeps path s t p y fit e) 0 [] a.0 ws refl a.2

reader_weights_fit : (version : ℕ) (d : Lists) (path : List ℕ) (x : Data) (ws : List (Weight ℕ)) → NamesOnce d → reader_weights version d path x ≡ Ok ws → weights_fit (hears d) ws ≡ true
reader_weights_fit version d path x ws once q = weights_read_fit (hears d) (codes "reader") (reader_and_keys version d) (λ p ms e z. reader_and_keys_are version d p ms e once z) path x ws q

writer_weights_fit : (version : ℕ) (d : Lists) (path : List ℕ) (x : Data) (ws : List (Weight ℕ)) → writer_weights version d path x ≡ Ok ws → weights_fit (writes_key d) ws ≡ true
writer_weights_fit version d path x ws q = weights_read_fit (writes_key d) (codes "writer") (writer_and_keys version d) (writer_and_keys_are version d) path x ws q

-- ── rows
row_lists_is : (version : ℕ) (d : Lists) (name path : List ℕ) (ms : Members) (r : Row) → NamesOnce d → row_lists version d name path ms ≡ Ok r → (r.name ≡ name) × (row_fits (network_of d) r ≡ true)
unfolding row_lists
row_lists_is version d name path ms r once q =
    let made : List (Weight ℕ) → List (Weight ℕ) → List (Weight ℕ) → Row = λ xs ys zs. record { name = name; samples = in_order (λ n. n) xs; takes = in_order (λ n. n) ys; permits = in_order (λ n. n) zs } in
    let a = bind_ok (optional (codes "samples") [] (reader_weights version d) path ms) (λ xs. optional (codes "takes") [] (reader_weights version d) path ms >>= λ ys. optional (codes "permits") [] (writer_weights version d) path ms >>= λ zs. Ok (made xs ys zs)) r q in
    let b = bind_ok (optional (codes "takes") [] (reader_weights version d) path ms) (λ ys. optional (codes "permits") [] (writer_weights version d) path ms >>= λ zs. Ok (made a.0 ys zs)) r a.2 in
    let c = bind_ok (optional (codes "permits") [] (writer_weights version d) path ms) (λ zs. Ok (made a.0 b.0 zs)) r b.2 in
    let same = ok_is (made a.0 b.0 c.0) r c.2 in
    let heard = λ (key : List ℕ) (xs : List (Weight ℕ)) (e : optional key [] (reader_weights version d) path ms ≡ Ok xs). optional_keeps (λ ys. weights_fit (hears d) ys ≡ true) key [] (reader_weights version d) path ms xs e refl (λ p x z. reader_weights_fit version d p x xs once z) in
    let written = optional_keeps (λ ys. weights_fit (writes_key d) ys ≡ true) (codes "permits") [] (writer_weights version d) path ms c.0 c.1 refl (λ p x z. writer_weights_fit version d p x c.0 z) in
    let fit : row_fits (network_of d) (made a.0 b.0 c.0) ≡ true = both _ _ (in_order_fits (hears d) a.0 (heard (codes "samples") a.0 a.1)) (both _ _ (in_order_fits (hears d) b.0 (heard (codes "takes") b.0 b.1)) (in_order_fits (writes_key d) c.0 written)) in
    (ap (λ (x : Row). x.name) (sym same), subst (λ x. row_fits (network_of d) x ≡ true) same fit)

new_name_is : (names : List (List ℕ)) (path : List ℕ) (x : Data) (name : List ℕ) → a_new_name names path x ≡ Ok name → list_any (bytes_eq name) names ≡ false
unfolding a_new_name
new_name_is names path x name q =
    let a = bind_ok (a_name path x) (λ n. unless Duplicate path (not (is_some (number_of names n))) n) name q in
    let t = tested_is Duplicate path (not (is_some (number_of names a.0))) a.0 name a.2 in
    subst (λ n. list_any (bytes_eq n) names ≡ false) t.1 (absent (bytes_eq a.0) names (none_of (number_of names a.0) (is_not (is_some (number_of names a.0)) t.0)))

-- the names differ and each row fits
named_fit : Lists → List Row → Bool
named_fit d rs = names_differ rs && list_all (row_fits (network_of d)) rs

row_adds : (version : ℕ) (d : Lists) (before after : List Row) (path : List ℕ) (x : Data) → NamesOnce d → row version d before path x ≡ Ok after
    → (r : Row) × (before ++ r ∷ [] ≡ after) × (list_any (bytes_eq r.name) (row_names before) ≡ false) × (row_fits (network_of d) r ≡ true)
unfolding row
row_adds version d before after path x once q =
    let a = bind_ok (row_entry path x) (λ ms. field (codes "name") (a_new_name (row_names before)) path ms >>= λ name. row_lists version d name path ms >>= λ lists. Ok (before ++ lists ∷ [])) after q in
    let b = bind_ok (field (codes "name") (a_new_name (row_names before)) path a.0) (λ name. row_lists version d name path a.0 >>= λ lists. Ok (before ++ lists ∷ [])) after a.2 in
    let c = bind_ok (row_lists version d b.0 path a.0) (λ lists. Ok (before ++ lists ∷ [])) after b.2 in
    let f = field_is (codes "name") (a_new_name (row_names before)) path a.0 b.0 b.1 in
    let l = row_lists_is version d b.0 path a.0 c.0 once c.1 in
    (c.0, ok_is (before ++ c.0 ∷ []) after c.2, subst (λ n. list_any (bytes_eq n) (row_names before) ≡ false) (sym l.0) (new_name_is (row_names before) (key_path path (codes "name")) f.0 b.0 f.1), l.1)

row_keeps : (version : ℕ) (d : Lists) (before after : List Row) (path : List ℕ) (x : Data) → NamesOnce d → named_fit d before ≡ true → row version d before path x ≡ Ok after → named_fit d after ≡ true
unfolding named_fit
row_keeps version d before after path x once fit q =
    let a = row_adds version d before after path x once q in
    let r = a.0 in
    let names : row_names (before ++ r ∷ []) ≡ row_names before ++ r.name ∷ [] = map_push (λ (y : Row). y.name) before r in
    let differ : names_differ (before ++ r ∷ []) ≡ true = ap (is_distinct (λ y z. bytes_eq z y)) names ∙ is_distinct-push (λ y z. bytes_eq z y) (row_names before) r.name (first_of_both _ _ fit) a.2 in
    let each_fits : list_all (row_fits (network_of d)) (before ++ r ∷ []) ≡ true = list_all-append (row_fits (network_of d)) before (r ∷ []) ∙ both _ _ (second_of_both _ _ fit) (both (row_fits (network_of d) r) true a.3 refl) in
    subst (λ ys. (names_differ ys && list_all (row_fits (network_of d)) ys) ≡ true) a.1 (both _ _ differ each_fits)

row_adds_one : (version : ℕ) (d : Lists) (before after : List Row) (path : List ℕ) (x : Data) → NamesOnce d → row version d before path x ≡ Ok after → length after ≡ length before + 1
row_adds_one version d before after path x once q = let a = row_adds version d before after path x once q in ap length (sym a.1) ∙ length-append before (a.0 ∷ [])

rows_read_fit : (version : ℕ) (d : Lists) (ms : Members) (rs : List Row) → NamesOnce d → rows version d ms ≡ Ok rs → rows_fit (network_of d) rs ≡ true
unfolding a_section named_fit
rows_read_fit version d ms rs once q =
    let a = bind_ok (section (codes "rows") 64 ms) (λ xs. each (row version d) (codes "rows") 0 [] xs) rs q in
    let few = section_few (codes "rows") 64 ms a.0 a.1 in
    let many = each_adds (row version d) (codes "rows") (λ s t p y e. row_adds_one version d s t p y once e) 0 [] a.0 rs a.2 in
    let fit = each-keeps (row version d) (codes "rows") (λ ys. named_fit d ys ≡ true) (λ s t p y h e. row_keeps version d s t p y once h e) 0 [] a.0 rs refl a.2 in
    both (nat_le (length rs) 64) (names_differ rs && list_all (row_fits (network_of d)) rs) (le_true (length rs) 64 (omega arith)) fit

-- ── bounds and totals
row_and_bound_is : (names : List (List ℕ)) (path : List ℕ) (ms : Members) (b : ℕ × ℕ) → row_and_bound names path ms ≡ Ok b → b.0 < length names
unfolding row_and_bound
row_and_bound_is names path ms b q =
    let a = bind_ok (field (codes "row") (a_known_name names) path ms) (λ m. bound_number path ms >>= λ n. Ok (m, n)) b q in
    let c = bind_ok (bound_number path ms) (λ n. Ok (a.0, n)) b a.2 in
    subst (λ z. z.0 < length names) (ok_is (a.0, c.0) b c.2) (known_field_within (codes "row") names path ms a.0 a.1)

had_there : (has_key : ℕ → Bool) (row : Bool) (ks : List ℕ) → row ≡ true → list_all (λ k. has_key k && row) ks ≡ list_all has_key ks
had_there has_key row [] e = refl
had_there has_key row (k ∷ ks) e = let here : (has_key k && row) ≡ has_key k = rw e (and_true (has_key k)) in rw (here, had_there has_key row ks e) refl

bounds_push : (d : Lists) (rows : ℕ) (before after : List Bound) (e : ℕ × List ℕ) (b : ℕ × ℕ) → bounds_fit (network_of d) rows before ≡ true → AreKeys (hears d e.0) e.1 → b.0 < rows → any_stands (map bound_place before) e.0 e.1 ≡ false → before ++ bounds_of e b ≡ after → bounds_fit (network_of d) rows after ≡ true
bounds_push d rows before after e b fit keys lt new same =
    let make : ℕ → Bound = λ k. record { reader = e.0; key = k; row = b.0; bound = b.1 } in
    let test : Bound → Bool = λ z. hears d z.reader z.key && nat_lt z.row rows in
    let all : list_all test (map make e.1) ≡ true = list_all-map test make e.1 ∙ (had_there (hears d e.0) (nat_lt b.0 rows) e.1 (lt_true b.0 rows lt) ∙ keys.had) in
    let fitting : list_all test (before ++ map make e.1) ≡ true = list_all-append test before (map make e.1) ∙ both _ _ (first_of_both _ _ fit) all in
    let distinct = made_distinct bound_place e.0 make (λ k. refl) before e.1 (second_of_both _ _ fit) keys.differ new in
    subst (λ ys. bounds_fit (network_of d) rows ys ≡ true) same (both _ _ fitting distinct)

bound_keeps : (version : ℕ) (d : Lists) (names : List (List ℕ)) (list : List ℕ) (before after : List Bound) (path : List ℕ) (x : Data) → NamesOnce d → bounds_fit (network_of d) (length names) before ≡ true → bound version d names list before path x ≡ Ok after → bounds_fit (network_of d) (length names) after ≡ true
unfolding bound
bound_keeps version d names list before after path x once fit q =
    let a = bind_ok (bound_entry path x) (λ ms. reader_and_keys version d path ms >>= λ e. row_and_bound names path ms >>= λ b. and_more list path (any_stands (map bound_place before) e.0 e.1) before (bounds_of e b)) after q in
    let b = bind_ok (reader_and_keys version d path a.0) (λ e. row_and_bound names path a.0 >>= λ b. and_more list path (any_stands (map bound_place before) e.0 e.1) before (bounds_of e b)) after a.2 in
    let c = bind_ok (row_and_bound names path a.0) (λ n. and_more list path (any_stands (map bound_place before) b.0.0 b.0.1) before (bounds_of b.0 n)) after b.2 in
    let keys = reader_and_keys_are version d path a.0 b.0 once b.1 in
    let t = and_more_is list path (any_stands (map bound_place before) b.0.0 b.0.1) before (bounds_of b.0 c.0) after c.2 in
    bounds_push d (length names) before after b.0 c.0 fit keys (row_and_bound_is names path a.0 c.0 c.1) t.0 t.1

bounds_read_fit : (version : ℕ) (d : Lists) (names : List (List ℕ)) (ms : Members) (bs : List Bound) → NamesOnce d → bounds version d names ms ≡ Ok bs → bounds_fit (network_of d) (length names) bs ≡ true
unfolding a_section
bounds_read_fit version d names ms bs once q =
    let a = bind_ok (section (codes "bounds") 16384 ms) (λ xs. each (bound version d names (codes "bounds")) (codes "bounds") 0 [] xs) bs q in
    each-keeps (bound version d names (codes "bounds")) (codes "bounds") (λ ys. bounds_fit (network_of d) (length names) ys ≡ true) (λ s t p y h e. bound_keeps version d names (codes "bounds") s t p y once h e) 0 [] a.0 bs refl a.2

total_keeps : (d : Lists) (names : List (List ℕ)) (before after : List Total) (path : List ℕ) (x : Data) → IsWellFormed d → totals_fit (network_of d) (length names) before ≡ true → total d names before path x ≡ Ok after → totals_fit (network_of d) (length names) after ≡ true
unfolding total
total_keeps d names before after path x w fit q =
    let a = bind_ok (total_entry path x) (λ ms. field (codes "reader") (a_known_name d.readers.names) path ms >>= λ r. row_and_bound names path ms >>= λ b. unless Duplicate path (not (has_total before r)) (before ++ record { reader = r; row = b.0; bound = b.1 } ∷ [])) after q in
    let b = bind_ok (field (codes "reader") (a_known_name d.readers.names) path a.0) (λ r. row_and_bound names path a.0 >>= λ b. unless Duplicate path (not (has_total before r)) (before ++ record { reader = r; row = b.0; bound = b.1 } ∷ [])) after a.2 in
    let c = bind_ok (row_and_bound names path a.0) (λ n. unless Duplicate path (not (has_total before b.0)) (before ++ record { reader = b.0; row = n.0; bound = n.1 } ∷ [])) after b.2 in
    let y : Total = record { reader = b.0; row = c.0.0; bound = c.0.1 } in
    let t = tested_is Duplicate path (not (has_total before b.0)) (before ++ y ∷ []) after c.2 in
    let known = subst (λ n. b.0 < n) w.readers.paired (known_field_within (codes "reader") d.readers.names path a.0 b.0 b.1) in
    let ok = λ (z : Total). nat_lt z.reader (length d.readers.entries) && nat_lt z.row (length names) in
    let here : ok y ≡ true = both _ _ (lt_true b.0 (length d.readers.entries) known) (lt_true c.0.0 (length names) (row_and_bound_is names path a.0 c.0 c.1)) in
    let all_ok : list_all ok (before ++ y ∷ []) ≡ true = list_all-append ok before (y ∷ []) ∙ both _ _ (first_of_both _ _ fit) (both (ok y) true here refl) in
    subst (λ ys. totals_fit (network_of d) (length names) ys ≡ true) t.1 (both _ _ all_ok (is_distinct-push (λ u z. z.reader == u.reader) before y (second_of_both _ _ fit) (is_not (has_total before b.0) t.0)))

totals_read_fit : (d : Lists) (names : List (List ℕ)) (ms : Members) (ts : List Total) → IsWellFormed d → totals d names ms ≡ Ok ts → totals_fit (network_of d) (length names) ts ≡ true
unfolding a_section
totals_read_fit d names ms ts w q =
    let a = bind_ok (section (codes "totals") 256 ms) (λ xs. each (total d names) (codes "totals") 0 [] xs) ts q in
    each-keeps (total d names) (codes "totals") (λ ys. totals_fit (network_of d) (length names) ys ≡ true) (λ s t p y h e. total_keeps d names s t p y w h e) 0 [] a.0 ts refl a.2

-- ── the whole
certificate_fits : (d : Lists) (ms : Members) (c : Certificate) → IsWellFormed d → NamesOnce d → certificate d ms ≡ Ok c → fits (network_of d) c ≡ true
unfolding certificate fits
certificate_fits d ms c w once q =
    let h = bind_ok (head ms) (λ v. rows v d ms >>= λ rs. bounds v d (row_names rs) ms >>= λ bs. totals d (row_names rs) ms >>= λ ts. Ok (record { rows = rs; bounds = bs; totals = ts })) c q in
    let r = bind_ok (rows h.0 d ms) (λ rs. bounds h.0 d (row_names rs) ms >>= λ bs. totals d (row_names rs) ms >>= λ ts. Ok (record { rows = rs; bounds = bs; totals = ts })) c h.2 in
    let b = bind_ok (bounds h.0 d (row_names r.0) ms) (λ bs. totals d (row_names r.0) ms >>= λ ts. Ok (record { rows = r.0; bounds = bs; totals = ts })) c r.2 in
    let t = bind_ok (totals d (row_names r.0) ms) (λ ts. Ok (record { rows = r.0; bounds = b.0; totals = ts })) c b.2 in
    let made : Certificate = record { rows = r.0; bounds = b.0; totals = t.0 } in
    let many : length (row_names r.0) ≡ length r.0 = length-map r.0 (λ (y : Row). y.name) in
    let rows_ok = rows_read_fit h.0 d ms r.0 once r.1 in
    let bounds_ok = subst (λ n. bounds_fit (network_of d) n b.0 ≡ true) many (bounds_read_fit h.0 d (row_names r.0) ms b.0 once b.1) in
    let totals_ok = subst (λ n. totals_fit (network_of d) n t.0 ≡ true) many (totals_read_fit d (row_names r.0) ms t.0 w t.1) in
    subst (λ x. (rows_fit (network_of d) x.rows && (bounds_fit (network_of d) (length x.rows) x.bounds && totals_fit (network_of d) (length x.rows) x.totals)) ≡ true) (ok_is made c t.2) (both _ _ rows_ok (both _ _ bounds_ok totals_ok))

pub read_fits : (d : Lists) (bytes : List ℕ) (c : Certificate) → IsWellFormed d → NamesOnce d → read d bytes ≡ Ok c → fits (network_of d) c ≡ true
unfolding read
read_fits d bytes c w once q =
    let a = bind_ok (or_fault NotToml [] (document bytes)) (λ ms. certificate d ms) c q in
    certificate_fits d a.0 c w once a.2
