-- The marks and the cache stay tied when more numbers are marked and the new base is released.
use Rattle.std.proofs.Common.{◌≡◌, ℕ, suc, ◌+◌, ◌-◌, ◌<◌, ◌≤◌, max, Option, Some, None, MatchOption, Bool, true, false, ◌&&◌, ◌||◌, ◌==◌, leb, ltb, List, [], ◌∷◌, length, get_or, refl, sym, subst, ap, ◌∙◌, arith, inl, inr}
use Rattle.std.specs.Prelude.{filter}
use Rattle.std.specs.List.{All, remove, position_or_len}
use Rattle.std.proofs.lemmas.Bool.{cases_Bool, cases_eq, cases_lt, ne_eqb, eqb-true, both_ways, le-leb, lt-leb, lt-ltb, le-ltb}
use Rattle.std.proofs.lemmas.List.Elements.{All-weaker, All-push, All-append, All-take, All-drop}
use Rattle.dds_base.specs.declared.sample.Sample.{Sample}
use Rattle.dds_base.specs.Sets.{last_number}
use Rattle.dds_qos.specs.declared.admission.Admit.{Admit}
use Rattle.dds_qos.specs.declared.admission.Admit.TheVariants.{Stored, Overwrote, Rejected}
use Rattle.dds_qos.specs.Admission.{stored_after}
use Rattle.dds_qos.specs.Samples.{first_of, without, is_same, has_key}
use Rattle.dds_qos.specs.Taking.{IsLeastOfWriter}
use Rattle.dds_qos.specs.Reading.{base_of}
use Rattle.dds_qos.proofs.BaseLaws.{base_is}
use Rattle.dds_cache.specs.declared.released.Released.{Released}
use Rattle.dds_cache.specs.Released.{released_of, is_listed, raised}
use Rattle.dds_cache.specs.Cache.{CacheState}
use Rattle.dds_cache.specs.Cache.{available as unmarked}
use Rattle.dds_reader.specs.Marks.{AreNumbers, AddsMarks}
use Rattle.dds_reader.specs.Ranges.{IsLeastUnmarked, OnlyNumbers}
use Rattle.dds_reader.specs.Held.{IsTied, SameCache}
use Rattle.dds_reader.specs.Reader.{available_in}
use Rattle.dds_reader.proofs.MarkLaws.{adds_itself, adds_keeps, adds_numbers, adds_other, adds_received}

-- a raise leaves the writers listed
pub listed_raised : (v w u : ℕ) (ws : List Released) → is_listed v (raised w u ws) ≡ is_listed v ws
listed_raised v w u [] = refl
listed_raised v w u (r ∷ ws) = ap (λ b. (r.writer == v) || b) (listed_raised v w u ws)

-- what is released for a writer after a raise
released_other : (v w u : ℕ) (ws : List Released) → (w ≡ v → ⊥) → released_of v (raised w u ws) ≡ released_of v ws
released_other v w u [] ne = refl
released_other v w u (r ∷ ws) ne = elim (cases_Bool (r.writer == v)) [
  | inl t ↦ rw (t, ne_eqb r.writer w (λ e. ne (sym e ∙ eqb-true r.writer v t))) refl
  | inr f ↦ rw f (released_other v w u ws ne)
]

-- the raised writer has the greater number
released_same : (w u : ℕ) (ws : List Released) → is_listed w ws ≡ true → released_of w (raised w u ws) ≡ max (released_of w ws) u
released_same w u [] h = cc
released_same w u (r ∷ ws) h = elim (cases_Bool (r.writer == w)) [
  | inl t ↦ rw (t) refl
  | inr f ↦ rw f (released_same w u ws (sym (ap (λ b. b || is_listed w ws) f) ∙ h))
]

-- the released numbers are below the new base
below_base : (m m' : ℕ → ℕ → Bool) (c : CacheState) (w b : ℕ) → IsTied m c → ((v n : ℕ) → m v n ≡ true → m' v n ≡ true) → IsLeastUnmarked (m' w) b → released_of w c.writers < b
below_base m m' c w b tied keeps base = elim (cases_lt (released_of w c.writers) b) [
  | inl lt ↦ lt
  | inr ge ↦ absurd (both_ways _ base.unmarked (keeps w b (tied.released w b base.low ge)))
]

-- more numbers of w are marked, its new base b is released, and other samples may be stored
tied_after : (m m' : ℕ → ℕ → Bool) (more : ℕ → Bool) (c c' : CacheState) (w b : ℕ) → IsTied m c → is_listed w c.writers ≡ true → AddsMarks m m' w more → AreNumbers m' → IsLeastUnmarked (m' w) b
    → c'.writers ≡ raised w (b - 1) c.writers
    → All (λ y. m' y.writer y.sn ≡ true) c'.stored → All (λ y. is_listed y.writer c.writers ≡ true) c'.stored → IsTied m' c'
tied_after m m' more c c' w b tied listed adds numbers base e received known =
    let keeps = adds_keeps m m' w more adds in
    let lt = below_base m m' c w b tied keeps base in
    let low : 1 ≤ b = base.low in
    record {
      numbers = numbers;
      received = received;
      known = rw e (All-weaker _ (λ y. is_listed y.writer (raised w (b - 1) c.writers) ≡ true) (λ y h. listed_raised y.writer w (b - 1) c.writers ∙ h) c'.stored known);
      released = rw e (λ v n from upto. elim (cases_eq w v) [
        | inl same ↦
            subst (λ x. m' x n ≡ true) same
            (base.least n from (let r : released_of w (raised w (b - 1) c.writers) ≡ max (released_of w c.writers) (b - 1) = released_same w (b - 1) c.writers listed in
            let upto' : n ≤ released_of w (raised w (b - 1) c.writers) = subst (λ x. n ≤ released_of x (raised w (b - 1) c.writers)) (sym same) upto in
            omega (arith, lt, low)))
        | inr other ↦ keeps v n (tied.released v n from (subst (λ x. n ≤ x) (released_other v w (b - 1) c.writers other) upto))
      ]);
      next = rw e (λ v is. elim (cases_eq w v) [
        | inl same ↦
            subst (λ x. m' x (released_of x (raised w (b - 1) c.writers) + 1) ≡ false) same
            (let r : released_of w (raised w (b - 1) c.writers) ≡ max (released_of w c.writers) (b - 1) = released_same w (b - 1) c.writers listed in
            let at : released_of w (raised w (b - 1) c.writers) + 1 ≡ b = omega (arith, lt, low) in
            rw at base.unmarked)
        | inr other ↦ rw (released_other v w (b - 1) c.writers other) (adds_other m m' w more adds v _ other ∙ tied.next v (sym (listed_raised v w (b - 1) c.writers) ∙ is))
      ]);
    }

-- what holds of all elements holds of those that stay
All-remove : (P : Sample → Type 0) (xs : List Sample) (n : ℕ) → All P xs → All P (remove xs n)
All-remove P xs n h = All-append P _ _ (All-take P n xs h) (All-drop P (suc n) xs h)

-- what holds of the stored samples and of the new one holds after an admission
pub All-after : (P : Sample → Type 0) (a : Admit) (st : List Sample) (x : Sample) → All P st → P x → All P (stored_after a st x)
All-after P Stored st x all new = All-push P st x all new
All-after P (Overwrote old) st x all new = All-push P (remove st (first_of x.key st)) x (All-remove P st (first_of x.key st) all) new
All-after P (Rejected why) st x all new = all

-- more numbers of a writer are marked, and its new base is released
pub tied_marked : (m m' : ℕ → ℕ → Bool) (more : ℕ → Bool) (c c' : CacheState) (w b : ℕ) → IsTied m c → is_listed w c.writers ≡ true → AddsMarks m m' w more → OnlyNumbers more → IsLeastUnmarked (m' w) b
    → c' ≡ record c { writers = raised w (b - 1) c.writers } → IsTied m' c'
tied_marked m m' more c c' w b tied listed adds fits base e =
    let stored : c'.stored ≡ c.stored = ap (λ (v : CacheState). v.stored) e in
    tied_after m m' more c c' w b tied listed adds (adds_numbers m m' w more adds tied.numbers fits) base (ap (λ (v : CacheState). v.writers) e)
    (rw stored (adds_received m m' w more adds c.stored tied.received))
    (rw stored tied.known)

-- the same with a sample of the writer, whose number is one of them
pub tied_stored : (m m' : ℕ → ℕ → Bool) (more : ℕ → Bool) (c c' : CacheState) (a : Admit) (x : Sample) (b : ℕ) → IsTied m c → is_listed x.writer c.writers ≡ true → AddsMarks m m' x.writer more → OnlyNumbers more → more x.sn ≡ true → IsLeastUnmarked (m' x.writer) b
    → c'.writers ≡ raised x.writer (b - 1) c.writers → c'.stored ≡ stored_after a c.stored x → IsTied m' c'
tied_stored m m' more c c' a x b tied listed adds fits here base writers stored =
    tied_after m m' more c c' x.writer b tied listed adds (adds_numbers m m' x.writer more adds tied.numbers fits) base writers
    (rw stored (All-after (λ y. m' y.writer y.sn ≡ true) a c.stored x (adds_received m m' x.writer more adds c.stored tied.received) (adds_itself m m' x.writer more adds x.sn here)))
    (rw stored (All-after (λ y. is_listed y.writer c.writers ≡ true) a c.stored x tied.known listed))

-- a release changes no more than released numbers
pub same_released : (c c' : CacheState) (w u : ℕ) → c' ≡ record c { writers = raised w u c.writers } → SameCache c c'
same_released c c' w u e = rw e (record {
  limits = refl;
  stored = refl;
  keys = refl;
  listed = λ v. listed_raised v w u c.writers;
})

-- the writers of the marks and of the cache stay the same after a release
pub listed_released : (t t' : ℕ → Bool) (ws ws' : List Released) (w u : ℕ) → ((v : ℕ) → t' v ≡ t v) → ((v : ℕ) → t v ≡ is_listed v ws) → ws' ≡ raised w u ws → (v : ℕ) → t' v ≡ is_listed v ws'
listed_released t t' ws ws' w u same old e v = same v ∙ old v ∙ sym (listed_raised v w u ws) ∙ sym (ap (is_listed v) e)

-- fewer samples stored
pub tied_without : (m : ℕ → ℕ → Bool) (c c' : CacheState) (n : ℕ) → IsTied m c → c'.stored ≡ remove c.stored n → c'.writers ≡ c.writers → IsTied m c'
tied_without m c c' n tied stored writers = record {
  numbers = tied.numbers;
  received = rw stored (All-remove (λ y. m y.writer y.sn ≡ true) c.stored n tied.received);
  known = rw (stored, writers) (All-remove (λ y. is_listed y.writer c.writers ≡ true) c.stored n tied.known);
  released = rw writers tied.released;
  next = rw writers tied.next;
}

-- the tie goes by the state of the cache
tied_same : (m : ℕ → ℕ → Bool) (c c' : CacheState) → IsTied m c → c' ≡ c → IsTied m c'
tied_same m c c' tied e = rw e tied

-- the base of a listed writer is the number after the released ones
tied_base : (m : ℕ → ℕ → Bool) (c : CacheState) (w : ℕ) → IsTied m c → is_listed w c.writers ≡ true → base_of (m w) ≡ released_of w c.writers + 1
tied_base m c w tied listed = base_is (m w) (released_of w c.writers + 1) (omega arith) high (λ n low below. tied.released w n low (omega arith)) (inr (tied.next w listed))
  where
    high : released_of w c.writers + 1 ≤ 1 + last_number
    high = elim (cases_lt 0 (released_of w c.writers)) [
      | inl some ↦ (let a = (tied.numbers w (released_of w c.writers) (tied.released w (released_of w c.writers) some (omega arith))).1 in omega arith)
      | inr none ↦ omega arith
    ]

-- tests that agree on the elements keep the same ones
filter_alike : (p q : Sample → Bool) (xs : List Sample) → ((k : ℕ) (d : Sample) → k < length xs → p (get_or xs k d) ≡ q (get_or xs k d)) → filter p xs ≡ filter q xs
filter_alike p q [] same = refl
filter_alike p q (x ∷ xs) same = rw (same 0 x (omega arith), filter_alike p q xs (λ k d within. same (suc k) d (omega arith))) refl

-- what the cache has available is what the marks say
same_available : (m : ℕ → ℕ → Bool) (c : CacheState) (key : ℕ) → IsTied m c → unmarked c key ≡ available_in m c.stored key
same_available m c key tied = filter_alike (λ s. has_key key s && leb s.sn (released_of s.writer c.writers)) (λ s. has_key key s && ltb s.sn (base_of (m s.writer))) c.stored
    (λ k d within. ap (λ b. has_key key (get_or c.stored k d) && b) (alike (get_or c.stored k d).sn (released_of (get_or c.stored k d).writer c.writers) (base_of (m (get_or c.stored k d).writer)) (tied_base m c (get_or c.stored k d).writer tied (tied.known k d within))))
  where
    alike : (n r b : ℕ) → b ≡ r + 1 → leb n r ≡ ltb n b
    alike n r b e = elim (cases_lt r n) [
      | inl over ↦ rw (lt-leb n r over, le-ltb n b (omega arith)) refl
      | inr under ↦ rw (le-leb n r under, lt-ltb n b (omega arith)) refl
    ]

-- a sample that the cache gives is one that the marks allow
pub taken_cases : (m : ℕ → ℕ → Bool) (c : CacheState) (key : ℕ) (o : Option Sample) → IsTied m c → MatchOption o (unmarked c key ≡ []) (λ x. IsLeastOfWriter x (unmarked c key)) → MatchOption o (available_in m c.stored key ≡ []) (λ x. IsLeastOfWriter x (available_in m c.stored key))
taken_cases m c key o tied h = subst (λ xs. MatchOption o (xs ≡ []) (λ x. IsLeastOfWriter x xs)) (same_available m c key tied) h

-- the tie after a take
pub tied_taken : (m : ℕ → ℕ → Bool) (c c' : CacheState) (o : Option Sample) → IsTied m c → MatchOption o (c' ≡ c) (λ x. c' ≡ record { limits = c.limits; stored = without x c.stored; keys = c.keys; writers = c.writers }) → IsTied m c'
tied_taken m c c' None tied e = tied_same m c c' tied e
tied_taken m c c' (Some x) tied e =
    tied_without m c c' (position_or_len (is_same x) c.stored) tied (ap (λ (v : CacheState). v.stored) e) (ap (λ (v : CacheState). v.writers) e)

-- a take leaves the writers
pub writers_taken : (c c' : CacheState) (o : Option Sample) → MatchOption o (c' ≡ c) (λ x. c' ≡ record { limits = c.limits; stored = without x c.stored; keys = c.keys; writers = c.writers }) → c'.writers ≡ c.writers
writers_taken c c' None e = ap (λ (v : CacheState). v.writers) e
writers_taken c c' (Some x) e = ap (λ (v : CacheState). v.writers) e
