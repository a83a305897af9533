-- Each step on the counts keeps their rule.
use Rattle.std.proofs.Common.{◌≡◌, ◌≢◌, ℕ, zero, suc, ◌+◌, ◌%◌, ◌^◌, ◌<◌, ◌≤◌, List, [], ◌∷◌, ◌++◌, length, get_or, set, replicate, refl, sym, ap, ◌∙◌, subst, ⊎_elim, arith, length-set, get_or-set_same}
use Rattle.std.proofs.lemmas.List.{get_or-set_other, set-get_or}
use mathlib.Core.Logic.{dite}
use mathlib.Core.Option.{none, some, some-injective, some-ne-none}
use native.Mathlib.Decide.{ℕ_discrete}
use lib.ListN.{get_elem?}
use Rattle.atomic_table.specs.Table.{Me, step, keeps, opening, Allows}
use Rattle.atomic_table.proofs.Lists.{at_set}
use Rattle.dds_book.specs.declared.gauge.GaugeView.{GaugeView}
use Rattle.dds_book.specs.Gauge.{IsGauge, Owns, bumped, looked, note, seen_at, view_of}

-- ── what was read
-- the value that was just noted is found
seen_note : (app n : ℕ) (seen : List ℕ) → seen_at (note app n seen) app ≡ n
seen_note zero n [] = refl
seen_note zero n (x ∷ xs) = refl
seen_note (suc app) n [] = seen_note app n []
seen_note (suc app) n (x ∷ xs) = seen_note app n xs

-- and of another application what was found before
other_note : (app n : ℕ) (seen : List ℕ) (other : ℕ) → other ≢ app → seen_at (note app n seen) other ≡ seen_at seen other
other_note zero n [] zero apart = absurd (apart refl)
other_note zero n [] (suc other) apart = refl
other_note zero n (x ∷ xs) zero apart = absurd (apart refl)
other_note zero n (x ∷ xs) (suc other) apart = refl
other_note (suc app) n [] zero apart = refl
other_note (suc app) n [] (suc other) apart = other_note app n [] other (λ e. apart (ap suc e))
other_note (suc app) n (x ∷ xs) zero apart = refl
other_note (suc app) n (x ∷ xs) (suc other) apart = other_note app n xs other (λ e. apart (ap suc e))

-- of what was read after a look at the word of an application: the value that was found
pub read_now : (app word n : ℕ) (seen now : List ℕ) → word ≡ app → now ≡ note word n seen → seen_at now app ≡ n
read_now app word n seen now is noted = ap (λ l. seen_at l app) noted ∙ ap (λ a. seen_at (note word n seen) a) (sym is) ∙ seen_note word n seen

-- and of another application what was read before
pub read_before : (app word n : ℕ) (seen now : List ℕ) → word ≡ app → now ≡ note word n seen → (other : ℕ) → other ≢ app → seen_at now other ≡ seen_at seen other
read_before app word n seen now is noted other apart = ap (λ l. seen_at l other) noted ∙ other_note word n seen other (λ e. apart (e ∙ is))

-- ── the opening
-- the words of a new gauge
abbrev pub zeros : ℕ → List ℕ
zeros n = replicate n 0 ++ 0 ∷ []

get_or_zeros : (n a : ℕ) → get_or (zeros n) a 0 ≡ 0
get_or_zeros zero zero = refl
get_or_zeros zero (suc a) = refl
get_or_zeros (suc n) zero = refl
get_or_zeros (suc n) (suc a) = get_or_zeros n a

length_zeros : (n : ℕ) → length (zeros n) ≡ n + 1
length_zeros zero = refl
length_zeros (suc n) = let r = length_zeros n in omega arith

-- a new gauge has the rule: its maker owns all words
pub gauge_begins : (apps : ℕ) → IsGauge apps (opening (zeros apps) [] (view_of 0 apps 0 []))
gauge_begins apps = record {
  width = length_zeros apps;
  counts = λ i v a at own. get_or_zeros apps a ∙ ap (λ (u : GaugeView). u.count) (is i v at).1;
  apart = λ i j v w a at at' _ _. (is i v at).0 ∙ sym (is j w at').0;
  below = λ i v a at. let e : seen_at v.seen a ≡ 0 = ap (λ (u : GaugeView). seen_at u.seen a) (sym (is i v at).1) in omega arith;
}
  where
    is : (i : ℕ) (v : GaugeView) → get_elem? (view_of 0 apps 0 [] ∷ []) i ≡ some v → (i ≡ 0) × (view_of 0 apps 0 [] ≡ v)
    is zero v e = (refl, some-injective _ _ e)
    is (suc i) v e = absurd (some-ne-none v (sym e))

-- ── one view changes
-- a view at its place after one was changed: it is that one, or it was there before
pub set_cases : {P : Type 0} (views : List GaugeView) (i : ℕ) (w : GaugeView) (j : ℕ) (u : GaugeView) → get_elem? (set views i w) j ≡ some u
    → ((j ≡ i) → (w ≡ u) → P) → (j ≢ i → get_elem? views j ≡ some u → P) → P
set_cases views i w j u at here there =
    ⊎_elim (λ (t : (j ≡ i) × (w ≡ u)). here t.0 t.1) (λ (t : (j ≢ i) × (get_elem? views j ≡ some u)). there t.0 t.1) (at_set views i j w u at)

-- no two views own one word
abbrev Apart : List GaugeView → Type 0
Apart views = (i j : ℕ) (v w : GaugeView) (a : ℕ) → get_elem? views i ≡ some v → get_elem? views j ≡ some w → Owns v a → Owns w a → i ≡ j

-- that stays where a view changes that owns what it owned
apart_set : (views : List GaugeView) (id : ℕ) (v w : GaugeView) → get_elem? views id ≡ some v → ((a : ℕ) → Owns w a → Owns v a) → Apart views → Apart (set views id w)
apart_set views id v w at kept apart i j u t a at_i at_j own_u own_t =
    set_cases views id w i u at_i
    (λ i_is w_is. set_cases views id w j t at_j
    (λ j_is _. i_is ∙ sym j_is)
    (λ ne old. absurd (ne (apart j id t v a old at own_t (kept a (subst (λ (z : GaugeView). Owns z a) (sym w_is) own_u))))))
    (λ ne old. set_cases views id w j t at_j
    (λ j_is w_is. absurd (ne (apart i id u v a old at own_u (kept a (subst (λ (z : GaugeView). Owns z a) (sym w_is) own_t)))))
    (λ _ old'. apart i j u t a old old' own_u own_t))

-- no value that was read is above its word
abbrev Below : List ℕ → List GaugeView → Type 0
Below words views = (i : ℕ) (v : GaugeView) (a : ℕ) → get_elem? views i ≡ some v → seen_at v.seen a ≤ get_or words a 0

-- that stays where one view is changed to one that has read no more than its words
below_set : (words : List ℕ) (views : List GaugeView) (id : ℕ) (w : GaugeView) → ((a : ℕ) → seen_at w.seen a ≤ get_or words a 0) → Below words views → Below words (set views id w)
below_set words views id w read below i u a at =
    set_cases views id w i u at
    (λ _ w_is. subst (λ (z : GaugeView). seen_at z.seen a ≤ get_or words a 0) w_is (read a))
    (λ _ old. below i u a old)

-- the words may grow
below_words : (words now : List ℕ) (views : List GaugeView) → ((a : ℕ) → get_or words a 0 ≤ get_or now a 0) → Below words views → Below now views
below_words words now views grown below i v a at = let b = below i v a at in let g = grown a in omega arith

-- one word that grows
words_grow : (words : List ℕ) (app n : ℕ) → app < length words → get_or words app 0 ≤ n → (a : ℕ) → get_or words a 0 ≤ get_or (set words app n) a 0
words_grow words app n low more a =
    dite (ℕ_discrete a app)
    (λ (e : a ≡ app). subst (λ (z : ℕ). get_or words z 0 ≤ get_or (set words app n) z 0) (sym e) (let same = get_or-set_same words app n 0 low in omega arith))
    (λ (ne : a ≢ app). let same = get_or-set_other words app a n 0 ne in omega arith)

-- what a view has read, after it noted the word that it found
noted_below : (words : List ℕ) (seen : List ℕ) (app : ℕ) → ((a : ℕ) → seen_at seen a ≤ get_or words a 0) → (a : ℕ) → seen_at (note app (get_or words app 0) seen) a ≤ get_or words a 0
noted_below words seen app below a =
    dite (ℕ_discrete a app)
    (λ (e : a ≡ app). subst (λ (z : ℕ). seen_at (note app (get_or words app 0) seen) z ≤ get_or words z 0) (sym e) (let n = seen_note app (get_or words app 0) seen in omega arith))
    (λ (ne : a ≢ app). let n = other_note app (get_or words app 0) seen a ne in let b = below a in omega arith)

module _ (apps : ℕ) where
  -- a view, with the slots that its seat holds
  abbrev Held : Type 0
  Held = Me (Unit {0}) GaugeView

  -- the owner of a word may raise it
  pub bumps : (slots id : ℕ) (me : Held) (app : ℕ) → me.0.from ≡ app → me.0.to ≡ app + 1 → app < apps → me.0.count < 2 ^ 63
      → Allows (IsGauge apps) slots id me app (λ n. (n + 1) % 2 ^ 64) (bumped (step slots app 1 0 none) me)
  bumps slots id me app from to low room s r _ at small =
      let x : ℕ = get_or s.words app 0 in
      let v : GaugeView = me.0 in
      let own : Owns v app = (omega arith, omega arith) in
      let is : x ≡ v.count = r.counts id v app at own in
      let y : ℕ = (x + 1) % 2 ^ 64 in
      let new : y ≡ v.count + 1 = omega arith in
      let w : GaugeView = view_of v.from v.to (v.count + 1) v.seen in
      let wide = r.width in
      let here : get_or (set s.words app y) app 0 ≡ y = get_or-set_same s.words app y 0 (omega arith) in
      let only : (a : ℕ) → Owns w a → a ≡ app = λ a o. let o' = o in omega arith in (
        w,
        keeps,
        tt,
        record {
          width = length-set s.words app y ∙ wide;
          counts = λ i u a e own_u. set_cases s.views id w i u e
              (λ _ w_is. ap (λ (z : ℕ). get_or (set s.words app y) z 0) (only a (subst (λ (z : GaugeView). Owns z a) (sym w_is) own_u)) ∙ here ∙ new ∙ ap (λ (z : GaugeView). z.count) w_is)
              (λ ne old. let away : a ≢ app = λ a_is. ne (r.apart i id u v app old at (subst (Owns u) a_is own_u) own) in get_or-set_other s.words app a y 0 away ∙ r.counts i u a old own_u);
          apart = apart_set s.views id v w at (λ a o. o) r.apart;
          below = below_words s.words (set s.words app y) (set s.views id w) (words_grow s.words app y (omega arith) (omega arith)) (below_set s.words s.views id w (λ a. r.below id v a at) r.below);
        },
        (is, refl),
      )

  -- whoever has a seat may look at a word
  pub looks : (slots id : ℕ) (me : Held) (app : ℕ) → Allows (IsGauge apps) slots id me app (λ n. n) (looked (step slots app 0 0 none) me)
  looks slots id me app s r _ at small =
      let x : ℕ = get_or s.words app 0 in
      let v : GaugeView = me.0 in
      let w : GaugeView = view_of v.from v.to v.count (note app x v.seen) in
      let same : set s.words app x ≡ s.words = set-get_or s.words app 0 in
      let kept : IsGauge apps (record { words = s.words; homes = s.homes; views = set s.views id w }) = record {
        width = r.width;
        counts = λ i u a e own_u. set_cases s.views id w i u e
            (λ _ w_is. r.counts id v a at (subst (λ (z : GaugeView). Owns z a) (sym w_is) own_u) ∙ ap (λ (z : GaugeView). z.count) w_is)
            (λ _ old. r.counts i u a old own_u);
        apart = apart_set s.views id v w at (λ a o. o) r.apart;
        below = below_set s.words s.views id w (noted_below s.words v.seen app (λ a. r.below id v a at)) r.below;
      } in
      (w, keeps, tt, subst (λ (ws : List ℕ). IsGauge apps (record { words = ws; homes = s.homes; views = set s.views id w })) (sym same) kept, (r.below id v app at, (λ own. r.counts id v app at own), refl))
