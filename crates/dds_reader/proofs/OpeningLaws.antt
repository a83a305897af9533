-- A reader that knows nothing yet.
use Rattle.std.proofs.Common.{◌≡◌, ℕ, ◌+◌, ◌≤◌, Bool, false, ◌||◌, ◌==◌, List, [], ◌∷◌, refl, ap, arith, inl, inr}
use Rattle.std.specs.List.{All, list_any}
use Rattle.std.proofs.lemmas.Bool.{cases_Bool, both_ways}
use Rattle.std.proofs.lemmas.List.Elements.{All-map}
use Rattle.dds_base.specs.Sets.{last_number}
use Rattle.dds_cache.specs.Released.{released_of, is_listed}
use Rattle.dds_cache.specs.Released.{opened as unreleased}
use Rattle.dds_cache.specs.Cache.{CacheState}
use Rattle.dds_reader.specs.Notes.{has_writer, opened}
use Rattle.dds_reader.specs.Held.{IsTied}

-- the cache and the notes have the same writers
pub opened_listed : (v : ℕ) (ws : List ℕ) → is_listed v (unreleased ws) ≡ has_writer v (opened ws)
opened_listed v [] = refl
opened_listed v (w ∷ ws) = ap (λ b. (w == v) || b) (opened_listed v ws)

-- nothing is released
opened_zero : (v : ℕ) (ws : List ℕ) → released_of v (unreleased ws) ≡ 0
opened_zero v [] = refl
opened_zero v (w ∷ ws) = elim (cases_Bool (w == v)) [ inl t ↦ rw t refl | inr f ↦ rw f (opened_zero v ws) ]

-- the cache lists the writers
pub opened_names : (v : ℕ) (ws : List ℕ) → is_listed v (unreleased ws) ≡ list_any (λ w. w == v) ws
opened_names v [] = refl
opened_names v (w ∷ ws) = ap (λ b. (w == v) || b) (opened_names v ws)

-- no marks and an empty cache are tied
pub opened_tied : (m : ℕ → ℕ → Bool) (c : CacheState) (ws : List ℕ) → ((v n : ℕ) → m v n ≡ false) → c.stored ≡ [] → c.writers ≡ unreleased ws → IsTied m c
opened_tied m c ws none stored writers = record {
  numbers = λ v n is. absurd (both_ways _ (none v n) is);
  received = rw stored (λ k d within. absurd (omega arith));
  known = rw stored (λ k d within. absurd (omega arith));
  released = rw writers (λ v n low within. let z : released_of v (unreleased ws) ≡ 0 = opened_zero v ws in absurd (omega arith));
  next = λ v is. none v (released_of v c.writers + 1);
}

-- nothing is heard
pub opened_fits : (ws : List ℕ) → All (λ p. p.heard ≤ last_number) (opened ws)
opened_fits ws = All-map (λ p. p.heard ≤ last_number) (λ w. record { writer = w; heard = 0; owes = false }) ws (λ k d within. omega arith)
