-- The list of writers and what is released of each, after a release.
use Rattle.std.proofs.Common.{◌≡◌, ℕ, max, true, false, cond, ◌||◌, ◌==◌, List, [], ◌∷◌, get_or, refl, sym, ap, ◌∙◌, inl, inr}
use Rattle.std.proofs.lemmas.List.Elements.{All-map}
use Rattle.std.proofs.lemmas.List.Folds.{list_any_at}
use Rattle.std.proofs.lemmas.Bool.{cases_Bool, eq-eqb, eqb-true}
use Rattle.dds_base.specs.Numbered.{AreRising}
use Rattle.dds_base.specs.declared.sample.Sample.{Sample}
use Rattle.dds_base.proofs.NumberedLaws.{rising_stays}
use Rattle.dds_cache.specs.declared.released.Released.{Released}
use Rattle.dds_cache.specs.Released.{is_listed, released_of, opened, lifted, raised}
use Rattle.dds_cache.specs.Least.{IsUniform, AreListed}

-- at first nothing is released
released_opened : (w : ℕ) (ws : List ℕ) → released_of w (opened ws) ≡ 0
released_opened w [] = refl
released_opened w (v ∷ ws) = elim (cases_Bool (v == w)) [
  | inl hit ↦ rw hit refl
  | inr miss ↦ rw miss (released_opened w ws)
]

-- so all entries agree
pub uniform_opened : (ws : List ℕ) → IsUniform (opened ws)
uniform_opened ws =
    All-map (λ r. r.upto ≡ released_of r.writer (opened ws)) (λ (w : ℕ). record { writer = w; upto = 0 }) ws
    (λ i d within. sym (released_opened (get_or ws i d) ws))

-- a release lists the same writers
listed_raised : (w v upto : ℕ) (rs : List Released) → is_listed w (raised v upto rs) ≡ is_listed w rs
listed_raised w v upto [] = refl
listed_raised w v upto (r ∷ rs) = ap (λ b. (r.writer == w) || b) (listed_raised w v upto rs)

-- what is released of a listed writer after a release
released_raised : (w v upto : ℕ) (rs : List Released) → is_listed w rs ≡ true
    → released_of w (raised v upto rs) ≡ cond (w == v) (max (released_of w rs) upto) (released_of w rs)
released_raised w v upto [] listed = (let e : false ≡ true = listed in cc)
released_raised w v upto (r ∷ rs) listed = elim (cases_Bool (r.writer == w)) [
  | inl hit ↦ rw hit (ap (λ (q : ℕ). cond (q == v) (max r.upto upto) r.upto) (eqb-true r.writer w hit))
  | inr miss ↦ rw miss (released_raised w v upto rs (sym (ap (λ b. b || is_listed w rs) miss) ∙ listed))
]

-- entries that agree agree after a release
pub uniform_raised : (v upto : ℕ) (rs : List Released) → IsUniform rs → IsUniform (raised v upto rs)
uniform_raised v upto rs uniform = All-map (λ r. r.upto ≡ released_of r.writer (raised v upto rs)) (lifted v upto) rs (λ i d within.
    let r = get_or rs i d in
    ap (λ (n : ℕ). cond (r.writer == v) (max n upto) n) (uniform i d within)
    ∙ sym (released_raised r.writer v upto rs (list_any_at (λ a. a.writer == r.writer) rs i d within (eq-eqb r.writer r.writer refl))))

-- and the writers of the stored samples are listed still
pub all_listed_raised : (v upto : ℕ) (rs : List Released) (xs : List Sample) → AreListed xs rs → AreListed xs (raised v upto rs)
all_listed_raised v upto rs xs listed = λ i d within. listed_raised (get_or xs i d).writer v upto rs ∙ listed i d within

-- a release changes the entry of no other writer
pub lifted_other : (w upto : ℕ) (r : Released) → (r.writer == w) ≡ false → lifted w upto r ≡ r
lifted_other w upto r miss = rw miss refl

-- and it keeps the order of the writers
pub rising_raised : (w upto : ℕ) (rs : List Released) → AreRising (λ r. r.writer) rs → AreRising (λ r. r.writer) (raised w upto rs)
rising_raised w upto rs rising = rising_stays (λ r. r.writer) (lifted w upto) rs (λ r. refl) rising
