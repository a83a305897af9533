-- What the first places of each writer tell of the least available sample of a key.
use Rattle.std.proofs.Common.{length, take, ◌≡◌, ℕ, ◌≤◌, true, false, ◌||◌, ◌==◌, List, [], Option, None, Some, sym, subst, ap, ◌∙◌, arith, inl, inr, ◌⊎◌, refl}
use Rattle.std.specs.Prelude.{is_some}
use Rattle.std.specs.Map.{values_of}
use Rattle.std.proofs.lemmas.Bool.{eqb-true, cases_Bool}
use Rattle.std.proofs.lemmas.List.{take_all}
use Rattle.dds_cache.specs.declared.released.Released.{Released}
use Rattle.dds_cache.specs.Released.{is_listed, released_of}
use Rattle.dds_cache.specs.Order.{Place, Places, Held, are_apart, held_at, sample_of, samples_of}
use Rattle.dds_cache.specs.Queues.{IsFirstQueued}
use Rattle.dds_cache.specs.Least.{AreListed, IsAvailableAt, IsLeastAt, NoneAvailable, IsLesser, IsFound, IsAtMost, IsBest}
use Rattle.dds_cache.proofs.PlaceLaws.{all_at}
use Rattle.dds_cache.proofs.TicketLaws.{found_at}

-- the first place of a writer up to what is released of it is an available sample's
pub found_is : (m : Places) (ws : List Released) (key : ℕ) (r : Released) (f : Option (Place × ℕ)) → r.upto ≡ released_of r.writer ws
    → IsFirstQueued m key r.writer r.upto f → IsFound m ws key f
found_is m ws key r None own first = tt
found_is m ws key r (Some f) own first =
    let same : released_of f.0.0.1 ws ≡ released_of r.writer ws = ap (λ (p : ℕ × ℕ). released_of p.1 ws) first.0 in
    let within : f.0.1 ≤ r.upto = first.1 in
    record { here = first.2; of_key = ap (λ (p : ℕ × ℕ). p.0) first.0; available = omega (arith, same, own, within) }

-- and none of the writer's available samples of the key has a lesser number
pub found_least : (m : Places) (ws : List Released) (key : ℕ) (r : Released) (f : Option (Place × ℕ)) → r.upto ≡ released_of r.writer ws
    → IsFirstQueued m key r.writer r.upto f → (q : Place) → IsAvailableAt m ws key q → r.writer ≡ q.0.1 → IsAtMost f q.1
found_least m ws key r f own first q av writer = go f first
  where
    place : q ≡ ((key, r.writer), q.1)
    place = ap (λ (k : ℕ). ((k, q.0.1), q.1)) av.of_key ∙ ap (λ (w : ℕ). ((key, w), q.1)) (sym writer)

    there : is_some (held_at m ((key, r.writer), q.1)) ≡ true
    there = ap (λ (p : Place). is_some (held_at m p)) (sym place) ∙ av.here

    within : q.1 ≤ r.upto
    within =
        let same : released_of q.0.1 ws ≡ released_of r.writer ws = ap (λ (w : ℕ). released_of w ws) (sym writer) in
        let a = av.available in
        omega (arith, same, own, a)

    go : (f : Option (Place × ℕ)) → IsFirstQueued m key r.writer r.upto f → IsAtMost f q.1
    go None first = (let h : false ≡ true = sym (ap is_some (first q.1 within)) ∙ there in cc)
    go (Some g) first = first.3 q.1 within there

-- the lesser of two is one of them
one_of : (a b r : Option (Place × ℕ)) → IsLesser a b r → (r ≡ a) ⊎ (r ≡ b)
one_of None b r h = inr h
one_of (Some a) None r h = inl h
one_of (Some a) (Some b) r (inl h) = inl h.0
one_of (Some a) (Some b) r (inr h) = inr h.0

-- and its number is at most that of each
lesser_of : (a b r : Option (Place × ℕ)) (n : ℕ) → IsLesser a b r → IsAtMost a n ⊎ IsAtMost b n → IsAtMost r n
lesser_of None b r n h (inl le) = absurd le
lesser_of None b r n h (inr le) = subst (λ o. IsAtMost o n) (sym h) le
lesser_of (Some a) None r n h (inl le) = subst (λ o. IsAtMost o n) (sym h) le
lesser_of (Some a) None r n h (inr le) = absurd le
lesser_of (Some a) (Some b) r n (inl h) (inl le) = subst (λ o. IsAtMost o n) (sym h.0) le
lesser_of (Some a) (Some b) r n (inl h) (inr le) = subst (λ o. IsAtMost o n) (sym h.0) (let k : a.0.1 ≤ b.0.1 = h.1 in let l : b.0.1 ≤ n = le in omega (arith, k, l))
lesser_of (Some a) (Some b) r n (inr h) (inl le) = subst (λ o. IsAtMost o n) (sym h.0) (let k : b.0.1 ≤ a.0.1 = h.1 in let l : a.0.1 ≤ n = le in omega (arith, k, l))
lesser_of (Some a) (Some b) r n (inr h) (inr le) = subst (λ o. IsAtMost o n) (sym h.0) le

-- among no writers nothing is found
pub best_none : (m : Places) (ws : List Released) (key : ℕ) → IsBest m ws key [] None
best_none m ws key = record { found = tt; least = λ q av listed. (let e : false ≡ true = listed in cc) }

-- among one writer more the lesser of the best and of its first is the best
pub best_more : (m : Places) (ws among more : List Released) (key : ℕ) (r : Released) (best f new : Option (Place × ℕ)) → r.upto ≡ released_of r.writer ws
    → IsFirstQueued m key r.writer r.upto f → IsBest m ws key among best → IsLesser best f new
    → ((w : ℕ) → is_listed w more ≡ (is_listed w among || (r.writer == w))) → IsBest m ws key more new
best_more m ws among more key r best f new own first old lesser has = record {
  found = elim (one_of best f new lesser) [
    | inl e ↦ subst (λ o. IsFound m ws key o) (sym e) old.found
    | inr e ↦ subst (λ o. IsFound m ws key o) (sym e) (found_is m ws key r f own first)
  ];
  least = λ q av listed. lesser_of best f new q.1 lesser (elim (cases_Bool (is_listed q.0.1 among)) [
    | inl before ↦ inl (old.least q av before)
    | inr not ↦ inr (found_least m ws key r f own first q av
        (eqb-true r.writer q.0.1 (ap (λ b. b || (r.writer == q.0.1)) (sym not) ∙ sym (has q.0.1) ∙ listed)))
  ]);
}

-- the writer of a place with a sample is listed
place_listed : (m : Places) (ws : List Released) (q : Place) → are_apart m.entries ≡ true → AreListed (values_of (samples_of m)) ws
    → is_some (held_at m q) ≡ true → is_listed q.0.1 ws ≡ true
place_listed m ws q apart listed here = go (held_at m q) refl here
  where
    go : (o : Option Held) → held_at m q ≡ o → is_some o ≡ true → is_listed q.0.1 ws ≡ true
    go None e here = absurd (let f : false ≡ true = here in cc)
    go (Some h) e here =
        all_at (λ x. is_listed x.writer ws ≡ true) (samples_of m) listed h.0 (sample_of q h.1) (found_at m.entries q h apart e)

-- past the last writer the best is the best of all
best_of_all : (m : Places) (ws : List Released) (key i : ℕ) (o : Option (Place × ℕ)) → are_apart m.entries ≡ true → length ws ≤ i
    → AreListed (values_of (samples_of m)) ws → IsBest m ws key (take i ws) o
    → (q : Place) → IsAvailableAt m ws key q → IsAtMost o q.1
best_of_all m ws key i o apart past listed best q av = best.least q av
    (ap (λ (l : List Released). is_listed q.0.1 l) (take_all i ws past) ∙ place_listed m ws q apart listed av.here)

-- so it is the least of all
pub best_some : (m : Places) (ws : List Released) (key i : ℕ) (b : Place × ℕ) → are_apart m.entries ≡ true → length ws ≤ i
    → AreListed (values_of (samples_of m)) ws → IsBest m ws key (take i ws) (Some b)
    → IsLeastAt m ws key b.0
best_some m ws key i b apart past listed best = (best.found, λ q av. best_of_all m ws key i (Some b) apart past listed best q av)

-- and where there is none no sample is available
pub best_nowhere : (m : Places) (ws : List Released) (key i : ℕ) → are_apart m.entries ≡ true → length ws ≤ i
    → AreListed (values_of (samples_of m)) ws → IsBest m ws key (take i ws) None
    → NoneAvailable m ws key
best_nowhere m ws key i apart past listed best q av = best_of_all m ws key i None apart past listed best q av
