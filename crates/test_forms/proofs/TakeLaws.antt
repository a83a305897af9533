-- What a walk over the stored samples finds, in the words of the contract of `take`.
use Rattle.std.proofs.Common.{◌≡◌, ℕ, Bool, leb, ◌&&◌, [], get_or, refl, subst, sym, inl, inr}
use Rattle.std.proofs.lemmas.Bool.{and_from, and_parts, eq-eqb, eqb-true, le-leb, leb-true, lt-leb, cases_eq, ne_eqb, and_right}
use Rattle.dds_base.specs.declared.sample.Sample.{Sample}
use Rattle.dds_qos.specs.Samples.{has_key}
use Rattle.dds_qos.specs.Taking.{IsLeastOfWriter}
use Rattle.dds_qos.proofs.TakingLaws.{least_at, none_at}
use Rattle.dds_cache.specs.Cache.{CacheState, available}
use Rattle.test_forms.specs.Least.{IsLeastAt, NoneAvailable}
use Rattle.dds_cache.specs.Released.{released_of}

-- an available sample of the key
abbrev passes : CacheState → ℕ → Sample → Bool
passes c key s = has_key key s && leb s.sn (released_of s.writer c.writers)

-- the place with the least number has a sample that may be given
pub taken_at : (c : CacheState) (key at : ℕ) (x : Sample) → IsLeastAt c key at → x ≡ get_or c.stored at x → IsLeastOfWriter x (available c key)
taken_at c key at x found is = subst (λ y. IsLeastOfWriter y (available c key)) (sym is) (least_at (passes c key) c.stored at x found.within
    (and_from _ _ (eq-eqb _ key (found.of_key x)) (le-leb _ _ (found.available x)))
    (λ k within h w. let p = and_parts (has_key key (get_or c.stored k x)) (leb (get_or c.stored k x).sn (released_of (get_or c.stored k x).writer c.writers)) h in
    found.least k x within (eqb-true (get_or c.stored k x).key key p.0) (leb-true (get_or c.stored k x).sn (released_of (get_or c.stored k x).writer c.writers) p.1)))

-- where nothing is available, nothing may be given
pub none_taken : (c : CacheState) (key : ℕ) → NoneAvailable c key → available c key ≡ []
none_taken c key none = none_at (passes c key) c.stored (λ k d within. elim (cases_eq (get_or c.stored k d).key key) [
  | inl e ↦ and_right (has_key key (get_or c.stored k d)) (leb (get_or c.stored k d).sn (released_of (get_or c.stored k d).writer c.writers)) (lt-leb _ _ (none k d within e))
  | inr ne ↦ rw (ne_eqb (get_or c.stored k d).key key ne) refl
])
