-- The list of the stored samples, by their tickets.
use Rattle.std.proofs.Common.{◌≡◌, ℕ, suc, ◌+◌, ◌<◌, ◌≤◌, Bool, true, false, ◌==◌, List, [], ◌∷◌, ◌++◌, length, get_or, Option, None, Some, refl, sym, subst, ap, ◌∙◌, arith, inl, inr, Less}
use Rattle.std.specs.List.{All, position_or_len, remove, AllByRecursion}
use Rattle.std.specs.List.Sorted.{IsStrictlySortedBy}
use Rattle.std.specs.Ordering.{nat_cmp}
use Rattle.std.specs.Map.{keys_of, values_of, remove_entry}
use Rattle.std.specs.BTreeMap.{is_at}
use Rattle.std.specs.Cmp.{nat_cmp_total}
use Rattle.std.proofs.lemmas.Cmp.{ranked, eq_by_cmp_equiv}
use Rattle.std.proofs.lemmas.Map.Keys.{sorted_head, sorted_tail, IsDistinct-from_sorted}
use Rattle.std.proofs.Math.ListN.{get_or-map}
use Rattle.std.proofs.lemmas.Map.Entries.{lookup_from_place, length-values_of}
use Rattle.std.proofs.lemmas.List.{get_or_past}
use Rattle.std.proofs.lemmas.Option.{slice_get-get_or}
use Rattle.std.proofs.lemmas.Bool.{cases_eq, cases_Bool, cond-true, cond-false}
use Rattle.dds_base.specs.declared.sample.Sample.{Sample}
use Rattle.dds_qos.specs.Samples.{first_of, is_same, without}
use Rattle.dds_cache.proofs.MapLaws.{none_some}
use Rattle.dds_cache.proofs.QueueLaws.{same_itself}
use Rattle.dds_cache.proofs.TicketLaws.{IsInOrder, at_self, at_apart}
use Rattle.dds_cache.specs.Order.{Samples, at, has_key, IsFirst, NoneOf}

-- a sample at the end is the last
pub values_push : (es : Samples) (k : ℕ) (v : Sample) → values_of (es ++ (k, v) ∷ []) ≡ values_of es ++ v ∷ []
values_push [] k v = refl
values_push (e ∷ es) k v = ap (λ l. e.1 ∷ l) (values_push es k v)

-- in order, a later entry has a greater ticket
later : (es : Samples) (k t : ℕ) (x : Sample) → AllByRecursion (λ y. nat_cmp k y ≡ Less) (keys_of es) → at es t ≡ Some x → k < t
later [] k t x all there = absurd (none_some refl there)
later (e ∷ es) k t x all there = elim (cases_eq t e.0) [
  | inl same ↦ let h : k < e.0 = ranked k e.0 Less (sym all.0) in omega (arith, same, h)
  | inr ne ↦ later es k t x all.1 (sym (cond-false _ (Some e.1) (at es t) (at_apart t e.0 ne)) ∙ there)
]

-- what is found among the later entries is found
found_later : (e : ℕ × Sample) (es : Samples) (t : ℕ) (x : Sample) → AllByRecursion (λ y. nat_cmp e.0 y ≡ Less) (keys_of es) → at es t ≡ Some x
    → at (e ∷ es) t ≡ Some x
found_later e es t x head there =
    cond-false _ (Some e.1) (at es t) (at_apart t e.0 (λ same. let lt = later es e.0 t x head there in omega (arith, same, lt))) ∙ there

-- to take out a later one leaves the first
remove_suc : (x : Sample) (xs : List Sample) (n : ℕ) → remove (x ∷ xs) (1 + n) ≡ x ∷ remove xs n
remove_suc x xs n = let e : 1 + n ≡ suc n = omega arith in ap (λ (k : ℕ). remove (x ∷ xs) k) e

-- of samples in order, to take out the first that passes by its ticket is to take out the first that passes
pub remove_first : (p : Sample → Bool) (es : Samples) (t : ℕ) (x : Sample) → IsStrictlySortedBy nat_cmp (keys_of es) → at es t ≡ Some x → p x ≡ true
    → ((s : ℕ) (y : Sample) → at es s ≡ Some y → p y ≡ true → t ≤ s)
    → values_of (remove_entry (is_at (nat_cmp t)) es) ≡ remove (values_of es) (position_or_len p (values_of es))
remove_first p [] t x sorted there passes first = absurd (none_some refl there)
remove_first p (e ∷ es) t x sorted there passes first = elim (cases_eq t e.0) [
  | inl same ↦
      let test : is_at (nat_cmp t) e.0 ≡ true = ap (λ (q : ℕ). is_at (nat_cmp t) q) (sym same) ∙ at_self t in
      let is : Some e.1 ≡ Some x = sym (cond-true _ (Some e.1) (at es t) test) ∙ there in
      let here : p e.1 ≡ true = (let h : e.1 ≡ x = cc in ap p h) ∙ passes in
      rw (test, here) refl
  | inr ne ↦
      let test = at_apart t e.0 ne in
      let rest : at es t ≡ Some x = sym (cond-false _ (Some e.1) (at es t) test) ∙ there in
      let head = sorted_head nat_cmp e.0 (keys_of es) sorted in
      let lt = later es e.0 t x head rest in
      let fails : p e.1 ≡ false = elim (cases_Bool (p e.1)) [
        | inl passed ↦ absurd (let h = first e.0 e.1 (cond-true _ (Some e.1) (at es e.0) (at_self e.0)) passed in omega (arith, h, lt))
        | inr failed ↦ failed
      ] in
      rw (test, fails) (ap (λ l. e.1 ∷ l) (remove_first p es t x (sorted_tail nat_cmp e.0 (keys_of es) sorted) rest passes
      (λ s y found pass. first s y (found_later e es s y head found) pass))
      ∙ sym (remove_suc e.1 (values_of es) (position_or_len p (values_of es))))
]

-- the value that is found first
first_value : (p : Sample → Bool) (es : Samples) (t : ℕ) (x d : Sample) → IsStrictlySortedBy nat_cmp (keys_of es) → at es t ≡ Some x → p x ≡ true
    → ((s : ℕ) (y : Sample) → at es s ≡ Some y → p y ≡ true → t ≤ s) → x ≡ get_or (values_of es) (position_or_len p (values_of es)) d
first_value p [] t x d sorted there passes first = absurd (none_some refl there)
first_value p (e ∷ es) t x d sorted there passes first = elim (cases_eq t e.0) [
  | inl same ↦
      let test : is_at (nat_cmp t) e.0 ≡ true = ap (λ (q : ℕ). is_at (nat_cmp t) q) (sym same) ∙ at_self t in
      let is : Some e.1 ≡ Some x = sym (cond-true _ (Some e.1) (at es t) test) ∙ there in
      let h : e.1 ≡ x = cc in
      rw (ap p h ∙ passes) (sym h)
  | inr ne ↦
      let test = at_apart t e.0 ne in
      let rest : at es t ≡ Some x = sym (cond-false _ (Some e.1) (at es t) test) ∙ there in
      let head = sorted_head nat_cmp e.0 (keys_of es) sorted in
      let lt = later es e.0 t x head rest in
      let fails : p e.1 ≡ false = elim (cases_Bool (p e.1)) [
        | inl passed ↦ absurd (let h = first e.0 e.1 (cond-true _ (Some e.1) (at es e.0) (at_self e.0)) passed in omega (arith, h, lt))
        | inr failed ↦ failed
      ] in
      rw fails (first_value p es t x d (sorted_tail nat_cmp e.0 (keys_of es) sorted) rest passes
      (λ s y found pass. first s y (found_later e es s y head found) pass)
      ∙ sym (get_or_suc e.1 (values_of es) (position_or_len p (values_of es)) d))
]
  where
    get_or_suc : (y : Sample) (ys : List Sample) (n : ℕ) (d : Sample) → get_or (y ∷ ys) (1 + n) d ≡ get_or ys n d
    get_or_suc y ys n d = let e : 1 + n ≡ suc n = omega arith in ap (λ (k : ℕ). get_or (y ∷ ys) k d) e

-- a sample of a key
key_of : (key : ℕ) (o : Option Sample) → has_key key o ≡ true → (x : Sample) × (o ≡ Some x) × ((x.key == key) ≡ true)
key_of key None h = absurd (let e : false ≡ true = h in cc)
key_of key (Some x) h = (x, refl, h)

-- the first of a key goes
pub popped : (m : Samples) (key t : ℕ) → IsInOrder m → IsFirst m key t
    → values_of (remove_entry (is_at (nat_cmp t)) m) ≡ remove (values_of m) (first_of key (values_of m))
popped m key t ordered f =
    let x = key_of key (at m t) f.here in
    remove_first (λ y. y.key == key) m t x.0 ordered x.1 x.2 (λ s y found pass. f.first s (ap (has_key key) found ∙ pass))

-- where no sample has the key nothing goes
no_place : (p : Sample → Bool) (es : Samples) → IsStrictlySortedBy nat_cmp (keys_of es) → ((s : ℕ) (y : Sample) → at es s ≡ Some y → p y ≡ false)
    → values_of es ≡ remove (values_of es) (position_or_len p (values_of es))
no_place p [] sorted h = refl
no_place p (e ∷ es) sorted h =
    let head = sorted_head nat_cmp e.0 (keys_of es) sorted in
    let below : (s : ℕ) (y : Sample) → at es s ≡ Some y → p y ≡ false = λ s y found.
    h s y (found_later e es s y head found) in
    let rest = no_place p es (sorted_tail nat_cmp e.0 (keys_of es) sorted) below in
    rw (h e.0 e.1 (cond-true _ (Some e.1) (at es e.0) (at_self e.0)))
    (ap (λ l. e.1 ∷ l) rest ∙ sym (remove_suc e.1 (values_of es) (position_or_len p (values_of es))))

-- of a key with no sample none goes
pub not_popped : (m : Samples) (key : ℕ) → IsInOrder m → NoneOf m key → values_of m ≡ remove (values_of m) (first_of key (values_of m))
not_popped m key ordered none = no_place (λ y. y.key == key) m ordered (λ s y found. sym (ap (has_key key) found) ∙ none s)

-- a sample is found still where one comes after it
pub at_append : (es : Samples) (t k : ℕ) (v x : Sample) → at es t ≡ Some x → at (es ++ (k, v) ∷ []) t ≡ Some x
at_append [] t k v x h = absurd (none_some refl h)
at_append (e ∷ es) t k v x h = elim (cases_Bool (is_at (nat_cmp t) e.0)) [
  | inl hit ↦ cond-true _ (Some e.1) _ hit ∙ sym (cond-true _ (Some e.1) (at es t) hit) ∙ h
  | inr miss ↦ cond-false _ (Some e.1) _ miss ∙ at_append es t k v x (sym (cond-false _ (Some e.1) (at es t) miss) ∙ h)
]

-- and taken out it leaves that one at the end
remove_append : (es : Samples) (t k : ℕ) (v x : Sample) → at es t ≡ Some x
    → remove_entry (is_at (nat_cmp t)) (es ++ (k, v) ∷ []) ≡ remove_entry (is_at (nat_cmp t)) es ++ (k, v) ∷ []
remove_append [] t k v x h = absurd (none_some refl h)
remove_append (e ∷ es) t k v x h = elim (cases_Bool (is_at (nat_cmp t) e.0)) [
  | inl hit ↦ rw hit refl
  | inr miss ↦ rw miss (ap (λ l. e ∷ l) (remove_append es t k v x (sym (cond-false _ (Some e.1) (at es t) miss) ∙ h)))
]

-- a sample stored in place of the first of its key
pub stored_over : (m : Samples) (key t k : ℕ) (v : Sample) → IsInOrder m → IsFirst m key t
    → values_of (remove_entry (is_at (nat_cmp t)) (m ++ (k, v) ∷ [])) ≡ remove (values_of m) (first_of key (values_of m)) ++ v ∷ []
stored_over m key t k v ordered f =
    let x = key_of key (at m t) f.here in
    ap (λ es. values_of es) (remove_append m t k v x.0 x.1) ∙ values_push (remove_entry (is_at (nat_cmp t)) m) k v
    ∙ ap (λ l. l ++ v ∷ []) (popped m key t ordered f)

-- the sample with a ticket goes: no other has its writer and number
pub taken : (m : Samples) (t : ℕ) (x : Sample) → IsInOrder m → at m t ≡ Some x → ((s : ℕ) (y : Sample) → at m s ≡ Some y → is_same x y ≡ true → s ≡ t)
    → values_of (remove_entry (is_at (nat_cmp t)) m) ≡ without x (values_of m)
taken m t x ordered there apart =
    remove_first (is_same x) m t x ordered there (same_itself x) (λ s y found pass. let e = apart s y found pass in omega (arith, e))

-- a sample with a ticket stands at a place of the list
pub place_at : (m : Samples) (t : ℕ) (x : Sample) → at m t ≡ Some x → (i : ℕ) × (i < length (values_of m)) × (get_or (values_of m) i x ≡ x)
place_at m t x there = go m there
  where
    go : (es : Samples) → at es t ≡ Some x → (i : ℕ) × (i < length (values_of es)) × (get_or (values_of es) i x ≡ x)
    go [] there = absurd (none_some refl there)
    go (e ∷ es) there = elim (cases_Bool (is_at (nat_cmp t) e.0)) [
      | inl hit ↦ (0, omega arith, (let h = sym (cond-true _ (Some e.1) (at es t) hit) ∙ there in cc))
      | inr miss ↦ (let a = go es (sym (cond-false _ (Some e.1) (at es t) miss) ∙ there) in (suc a.0, (let b = a.1 in omega arith), a.2))
    ]

-- and at each place of the list stands a sample with a ticket
pub at_place : (m : Samples) (i : ℕ) (d : Sample) → IsInOrder m → i < length (values_of m) → (t : ℕ) × (at m t ≡ Some (get_or (values_of m) i d))
at_place m i d ordered lt =
    let e : ℕ × Sample = get_or m i (0, d) in
    let within : i < length m = rw (length-values_of m) at lt in (
      e.0,
      lookup_from_place (eq_by_cmp_equiv nat_cmp_total) m i e.0 e.1 (IsDistinct-from_sorted nat_cmp (keys_of m) ordered) (slice_get-get_or m i (0, d) within)
          ∙ ap Some (sym (get_or-map (λ (p : ℕ × Sample). p.1) m i (0, d))),
    )

-- what holds of all of the list holds of each sample with a ticket
pub all_at : (P : Sample → Type 0) (m : Samples) → All P (values_of m) → (t : ℕ) (x : Sample) → at m t ≡ Some x → P x
all_at P m all t x there = let a = place_at m t x there in subst P a.2 (all a.0 x a.1)

-- the first of a key in the list
pub first_at : (m : Samples) (key t : ℕ) (d x : Sample) → IsInOrder m → IsFirst m key t → at m t ≡ Some x
    → x ≡ get_or (values_of m) (first_of key (values_of m)) d
first_at m key t d x ordered f there = first_value (λ y. y.key == key) m t x d ordered there (sym (ap (has_key key) there) ∙ f.here)
    (λ s y found pass. f.first s (ap (has_key key) found ∙ pass))

-- where no sample has the key none is the first of it
pub first_nowhere : (m : Samples) (key : ℕ) (d : Sample) → IsInOrder m → NoneOf m key → d ≡ get_or (values_of m) (first_of key (values_of m)) d
first_nowhere m key d ordered none =
    sym (get_or_past (values_of m) (first_of key (values_of m)) d (nowhere m ordered (λ s y found. sym (ap (has_key key) found) ∙ none s)))
  where
    nowhere : (es : Samples) → IsStrictlySortedBy nat_cmp (keys_of es) → ((s : ℕ) (y : Sample) → at es s ≡ Some y → (y.key == key) ≡ false)
        → length (values_of es) ≤ first_of key (values_of es)
    nowhere [] sorted h = omega arith
    nowhere (e ∷ es) sorted h =
        let head = sorted_head nat_cmp e.0 (keys_of es) sorted in
        let rest = nowhere es (sorted_tail nat_cmp e.0 (keys_of es) sorted)
        (λ s y found. h s y (found_later e es s y head found)) in
        rw (h e.0 e.1 (cond-true _ (Some e.1) (at es e.0) (at_self e.0))) (omega (arith, rest))
