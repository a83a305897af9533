-- What may be taken, by places of a list, for a walk over it.
use Rattle.std.specs.Prelude.{◌≡◌, ℕ, zero, suc, ◌≤◌, ◌<◌, Bool, true, false, cond, List, [], ◌∷◌, length, filter, slice_index_or as get_or}
use Rattle.std.proofs.Common.{refl, sym, subst, arith, inl, inr}
use Rattle.std.proofs.lemmas.Bool.{both_ways}
use Rattle.dds_base.specs.declared.sample.Sample.{Sample}
use Rattle.dds_base.specs.Sums.{In}
use Rattle.dds_qos.specs.Taking.{IsLeastOfWriter}

-- ── the same by places, for a walk over the list
in_at : (xs : List Sample) (i : ℕ) (d : Sample) → i < length xs → In (get_or xs i d) xs
in_at [] i d within = absurd (omega arith)
in_at (x ∷ xs) zero d within = inl refl
in_at (x ∷ xs) (suc i) d within = inr (in_at xs i d (omega arith))

at_in : (xs : List Sample) (t d : Sample) → In t xs → (k : ℕ) × (k < length xs) × (get_or xs k d ≡ t)
at_in [] t d i = absurd i
at_in (x ∷ xs) t d (inl e) = (0, omega arith, e)
at_in (x ∷ xs) t d (inr i) = (let a = at_in xs t d i in (suc a.0, (let b = a.1 in omega arith), a.2))

in_filter : (p : Sample → Bool) (xs : List Sample) (t : Sample) → In t xs → p t ≡ true → In t (filter p xs)
in_filter p [] t i h = absurd i
in_filter p (x ∷ xs) t i h = go (p x) refl i (λ j. in_filter p xs t j h)
  where
    go : (b : Bool) → p x ≡ b → In t (x ∷ xs) → (In t xs → In t (filter p xs)) → In t (cond b (x ∷ filter p xs) (filter p xs))
    go true e (inl same) rest = inl same
    go true e (inr j) rest = inr (rest j)
    go false e (inl same) rest = absurd (both_ways (p x) e (subst (λ y. p y ≡ true) (sym same) h))
    go false e (inr j) rest = rest j

filter_in : (p : Sample → Bool) (xs : List Sample) (t : Sample) → In t (filter p xs) → In t xs × (p t ≡ true)
filter_in p [] t i = absurd i
filter_in p (x ∷ xs) t i = go (p x) refl i (λ j. filter_in p xs t j)
  where
    go : (b : Bool) → p x ≡ b → In t (cond b (x ∷ filter p xs) (filter p xs)) → (In t (filter p xs) → In t xs × (p t ≡ true)) → In t (x ∷ xs) × (p t ≡ true)
    go true e (inl same) rest = (inl same, subst (λ y. p y ≡ true) same e)
    go true e (inr j) rest = (let a = rest j in (inr a.0, a.1))
    go false e j rest = (let a = rest j in (inr a.0, a.1))

-- the sample at a place that passes and whose number is the least of its writer's that pass
pub least_at : (p : Sample → Bool) (xs : List Sample) (i : ℕ) (d : Sample) → i < length xs → p (get_or xs i d) ≡ true
    → ((k : ℕ) → k < length xs → p (get_or xs k d) ≡ true → (get_or xs k d).writer ≡ (get_or xs i d).writer → (get_or xs i d).sn ≤ (get_or xs k d).sn)
    → IsLeastOfWriter (get_or xs i d) (filter p xs)
least_at p xs i d within passes least = record {
  among = in_filter p xs (get_or xs i d) (in_at xs i d within) passes;
  least = λ t j w. (let a = filter_in p xs t j in let b = at_in xs t d a.0 in
      subst (λ (y : Sample). (get_or xs i d).sn ≤ y.sn) b.2 (least b.0 b.1 (subst (λ y. p y ≡ true) (sym b.2) a.1) (subst (λ (y : Sample). y.writer ≡ (get_or xs i d).writer) (sym b.2) w)));
}

-- where none passes nothing is available
pub none_at : (p : Sample → Bool) (xs : List Sample) → ((k : ℕ) (d : Sample) → k < length xs → p (get_or xs k d) ≡ false) → filter p xs ≡ []
none_at p [] none = refl
none_at p (x ∷ xs) none = rw (none 0 x (omega arith)) (none_at p xs (λ k d within. none (suc k) d (omega arith)))
