-- The notes of the proxies.
use Rattle.std.proofs.Common.{◌≡◌, ℕ, ◌<◌, ◌≤◌, max, Bool, true, false, ◌||◌, ◌==◌, Option, Some, None, List, [], ◌∷◌, length, get_or, refl, sym, ap, ◌∙◌, arith, inl, inr, position}
use Rattle.std.specs.List.{All, list_any, position_or_len}
use Rattle.std.proofs.lemmas.List.Elements.{All-map, All-weaker}
use Rattle.std.proofs.lemmas.List.Recursion.{found_at, found_nowhere}
use Rattle.std.proofs.lemmas.List.Quantifiers.{position-Some}
use Rattle.std.proofs.lemmas.List.Sums.{fails_before_first}
use Rattle.std.proofs.lemmas.Bool.{cases_Bool, or_parts, cases_lt, cond-true, lt-ltb}
use Rattle.dds_base.specs.Numbered.{AreRising}
use Rattle.dds_base.specs.Sets.{last_number}
use Rattle.dds_base.proofs.NumberedLaws.{rising_stays}
use Rattle.dds_reader.specs.declared.notes.WriterProxy.{WriterProxy}
use Rattle.dds_reader.specs.Notes.{hears, hears_one, pays, pays_one, heard_in, owes_in}

-- the last number heard is one that a writer gives
abbrev Fits : WriterProxy → Type 0
Fits p = p.heard ≤ last_number

-- it stays so when another is heard
hears_one_fits : (w last : ℕ) (p : WriterProxy) → last ≤ last_number → Fits p → Fits (hears_one w last p)
hears_one_fits w last p h fits = elim (cases_Bool (p.writer == w)) [
  | inl t ↦ rw t (let k : max p.heard last ≤ last_number = omega arith in k)
  | inr f ↦ rw f fits
]

-- so do all notes
pub hears_fits : (w last : ℕ) (ps : List WriterProxy) → last ≤ last_number → All (λ p. p.heard ≤ last_number) ps → All (λ p. p.heard ≤ last_number) (hears w last ps)
hears_fits w last ps h all = All-map (λ p. p.heard ≤ last_number) (hears_one w last) ps (All-weaker (λ p. p.heard ≤ last_number) (λ p. (hears_one w last p).heard ≤ last_number) (λ p fits. hears_one_fits w last p h fits) ps all)

-- it stays so when an ACKNACK is built
pays_one_fits : (w : ℕ) (p : WriterProxy) → Fits p → Fits (pays_one w p)
pays_one_fits w p fits = elim (cases_Bool (p.writer == w)) [ inl t ↦ rw t fits | inr f ↦ rw f fits ]

-- so do all notes
pub pays_fits : (w : ℕ) (ps : List WriterProxy) → All (λ p. p.heard ≤ last_number) ps → All (λ p. p.heard ≤ last_number) (pays w ps)
pays_fits w ps all = All-map (λ p. p.heard ≤ last_number) (pays_one w) ps (All-weaker (λ p. p.heard ≤ last_number) (λ p. (pays_one w p).heard ≤ last_number) (λ p fits. pays_one_fits w p fits) ps all)

-- the writers stay
pub listed_pays : (v w : ℕ) (ps : List WriterProxy) → list_any (λ p. p.writer == v) (pays w ps) ≡ list_any (λ p. p.writer == v) ps
listed_pays v w [] = refl
listed_pays v w (p ∷ ps) = elim (cases_Bool (p.writer == w)) [
  | inl t ↦ rw t (ap (λ b. (p.writer == v) || b) (listed_pays v w ps))
  | inr f ↦ rw f (ap (λ b. (p.writer == v) || b) (listed_pays v w ps))
]

-- a writer that is not listed: no note changes
pub pays_none : (w : ℕ) (ps : List WriterProxy) → list_any (λ p. p.writer == w) ps ≡ false → ps ≡ pays w ps
pays_none w [] h = refl
pays_none w (p ∷ ps) h = elim (cases_Bool (p.writer == w)) [
  | inl t ↦ absurd (let k : true ≡ false = sym (ap (λ b. b || list_any (λ q. q.writer == w) ps) t) ∙ h in cc)
  | inr f ↦ rw f (ap (λ qs. p ∷ qs) (pays_none w ps (sym (ap (λ b. b || list_any (λ q. q.writer == w) ps) f) ∙ h)))
]

-- the note is of the writer
abbrev pub Of : ℕ → WriterProxy → Bool
Of w p = p.writer == w

-- no note is of a writer that is nowhere
none_at : (w : ℕ) (ps : List WriterProxy) (k : ℕ) (d : WriterProxy) → k < length ps → position (Of w) ps ≡ None → Of w (get_or ps k d) ≡ false
none_at w ps k d within e = elim (cases_lt (position_or_len (Of w) ps) (length ps)) [
  | inl found ↦ absurd (let h : Some (position_or_len (Of w) ps) ≡ None = sym (cond-true _ (Some (position_or_len (Of w) ps)) None (lt-ltb _ _ found)) ∙ e in cc)
  | inr past ↦ fails_before_first (Of w) ps k d (omega arith)
]

-- the note found has what was heard
pub heard_at : (w : ℕ) (ps : List WriterProxy) (i : ℕ) (d : WriterProxy) → position (Of w) ps ≡ Some i → (get_or ps i d).heard ≡ heard_in w ps
heard_at w ps i d e = let h = position-Some (Of w) ps i d e in sym (found_at (heard_in w) (Of w) (λ p. p.heard) 0 refl (λ _ _. refl) ps i d h.0 h.2 h.1)

-- nothing is heard of a writer that is nowhere
pub heard_nowhere : (w : ℕ) (ps : List WriterProxy) (d : WriterProxy) → position (Of w) ps ≡ None → 0 ≡ heard_in w ps
heard_nowhere w ps d e = sym (found_nowhere (heard_in w) (Of w) (λ p. p.heard) 0 refl (λ _ _. refl) ps d (λ k within. none_at w ps k d within e))

-- the note found says what is owed
pub owes_at : (w : ℕ) (ps : List WriterProxy) (i : ℕ) (d : WriterProxy) → position (Of w) ps ≡ Some i → (get_or ps i d).owes ≡ owes_in w ps
owes_at w ps i d e = let h = position-Some (Of w) ps i d e in sym (found_at (owes_in w) (Of w) (λ p. p.owes) false refl (λ _ _. refl) ps i d h.0 h.2 h.1)

-- nothing is owed to a writer that is nowhere
pub owes_nowhere : (w : ℕ) (ps : List WriterProxy) (d : WriterProxy) → position (Of w) ps ≡ None → false ≡ owes_in w ps
owes_nowhere w ps d e = sym (found_nowhere (owes_in w) (Of w) (λ p. p.owes) false refl (λ _ _. refl) ps d (λ k within. none_at w ps k d within e))

-- no proxy of the writer: nothing is heard
pub hears_none : (w last : ℕ) (ps : List WriterProxy) → list_any (λ p. p.writer == w) ps ≡ false → ps ≡ hears w last ps
hears_none w last [] h = refl
hears_none w last (p ∷ ps) h =
    let parts = or_parts (p.writer == w) (list_any (λ q. q.writer == w) ps) h in
    rw parts.0 (ap (λ qs. p ∷ qs) (hears_none w last ps parts.1))

-- the writers stay
pub listed_hears : (v w last : ℕ) (ps : List WriterProxy) → list_any (λ p. p.writer == v) (hears w last ps) ≡ list_any (λ p. p.writer == v) ps
listed_hears v w last [] = refl
listed_hears v w last (p ∷ ps) = elim (cases_Bool (p.writer == w)) [
  | inl t ↦ rw t (ap (λ b. (p.writer == v) || b) (listed_hears v w last ps))
  | inr f ↦ rw f (ap (λ b. (p.writer == v) || b) (listed_hears v w last ps))
]

-- a HEARTBEAT changes the note of no other writer
pub hears_one_other : (w last : ℕ) (p : WriterProxy) → (p.writer == w) ≡ false → hears_one w last p ≡ p
hears_one_other w last p miss = rw miss refl

-- nor does an ACKNACK
pub pays_one_other : (w : ℕ) (p : WriterProxy) → (p.writer == w) ≡ false → pays_one w p ≡ p
pays_one_other w p miss = rw miss refl

-- a note stays the note of its writer
hears_one_writer : (w last : ℕ) (p : WriterProxy) → (hears_one w last p).writer ≡ p.writer
hears_one_writer w last p = elim (cases_Bool (p.writer == w)) [ inl t ↦ rw t refl | inr f ↦ rw f refl ]

pays_one_writer : (w : ℕ) (p : WriterProxy) → (pays_one w p).writer ≡ p.writer
pays_one_writer w p = elim (cases_Bool (p.writer == w)) [ inl t ↦ rw t refl | inr f ↦ rw f refl ]

-- so the notes keep their order
pub rising_hears : (w last : ℕ) (ps : List WriterProxy) → AreRising (λ p. p.writer) ps → AreRising (λ p. p.writer) (hears w last ps)
rising_hears w last ps rising = rising_stays (λ p. p.writer) (hears_one w last) ps (hears_one_writer w last) rising

pub rising_pays : (w : ℕ) (ps : List WriterProxy) → AreRising (λ p. p.writer) ps → AreRising (λ p. p.writer) (pays w ps)
rising_pays w ps rising = rising_stays (λ p. p.writer) (pays_one w) ps (pays_one_writer w) rising

-- the place that is found by the number of a writer
pub placed : (n w : ℕ) (ps : List WriterProxy) (place : Option ℕ) → n ≡ w → place ≡ position (Of n) ps → position (Of w) ps ≡ place
placed n w ps place same found = ap (λ (m : ℕ). position (Of m) ps) (sym same) ∙ sym found
