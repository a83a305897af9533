-- How many samples each key has after a sample came or went.
use Rattle.std.proofs.Common.{◌≡◌, ℕ, ◌+◌, ◌-◌, ◌≤◌, cond, true, List, [], ◌∷◌, ◌++◌, length, Some, refl, sym, ap, ◌∙◌, arith, inl, inr}
use Rattle.std.specs.Prelude.{unwrap_or, option_map}
use Rattle.std.specs.Ordering.{nat_cmp}
use Rattle.std.specs.Map.{values_of, remove_entry}
use Rattle.std.specs.BTreeMap.{BTreeMap, UpdatesBy, is_at}
use Rattle.std.proofs.lemmas.Bool.{eq-eqb, ne_eqb, cond-true, cond-false}
use Rattle.std.proofs.lemmas.List.Sums.{sum_by_push, count_by-le-length}
use Rattle.std.proofs.lemmas.Map.Entries.{sum_by-remove_entry, length-values_of}
use Rattle.dds_base.specs.declared.sample.Sample.{Sample}
use Rattle.dds_qos.specs.Counted.{IsCounted}
use Rattle.dds_qos.specs.Samples.{in_instance, has_key}
use Rattle.dds_cache.specs.Order.{Places, Samples, at, are_apart, samples_of}
use Rattle.dds_cache.proofs.MapLaws.{exact_nat, changed}
use Rattle.dds_cache.proofs.TicketLaws.{length_is}

-- 1 for a sample of the key, else 0
abbrev share : ℕ → Sample → ℕ
share k x = cond (has_key k x) 1 0

-- a sample counts for its own key
share_own : (k : ℕ) (x : Sample) → x.key ≡ k → share k x ≡ 1
share_own k x e = cond-true _ 1 0 (eq-eqb x.key k e)

-- and for no other
share_other : (k : ℕ) (x : Sample) → (x.key ≡ k → ⊥) → share k x ≡ 0
share_other k x ne = cond-false _ 1 0 (ne_eqb x.key k ne)

-- how many there are with a sample more at the end
in_instance_push : (k : ℕ) (xs : List Sample) (x : Sample) → in_instance k (xs ++ x ∷ []) ≡ in_instance k xs + share k x
in_instance_push k xs x = sum_by_push (share k) xs x

-- how many there are without a sample
in_instance_remove : (k : ℕ) (m : Samples) (t : ℕ) (x : Sample) → at m t ≡ Some x
    → in_instance k (values_of (remove_entry (is_at (nat_cmp t)) m)) + share k x ≡ in_instance k (values_of m)
in_instance_remove k m t x there =
    ap (λ o. in_instance k (values_of (remove_entry (is_at (nat_cmp t)) m)) + unwrap_or (option_map (share k) o) 0) (sym there)
    ∙ sum_by-remove_entry (share k) (is_at (nat_cmp t)) m

-- a sample that is there is one of its key
pub counted_one : (m : Samples) (t : ℕ) (x : Sample) → at m t ≡ Some x → 1 ≤ in_instance x.key (values_of m)
counted_one m t x there =
    let e = in_instance_remove x.key m t x there in
    let own = share_own x.key x refl in
    omega (arith, e, own)

-- a key has no more samples than there are
pub counted_few : (places : Places) (k : ℕ) → are_apart places.entries ≡ true → in_instance k (values_of (samples_of places)) ≤ length places.entries
counted_few places k apart =
    let few = count_by-le-length (has_key k) (values_of (samples_of places)) in
    let long = length-values_of (samples_of places) ∙ length_is places.entries apart in
    omega (arith, few, long)

-- the counts after a sample came
pub counted_push : (xs : List Sample) (x : Sample) (c d : BTreeMap ℕ ℕ) → IsCounted xs c
    → UpdatesBy nat_cmp (nat_cmp x.key) c d (Some (in_instance x.key xs + 1)) → IsCounted (xs ++ x ∷ []) d
counted_push xs x c d counted u k = elim (changed nat_cmp exact_nat c d x.key (Some (in_instance x.key xs + 1)) u k) [
  | inl h ↦
      ap (λ o. unwrap_or o 0) h.1 ∙ ap (λ (q : ℕ). in_instance q xs + 1) h.0
      ∙ sym (in_instance_push k xs x ∙ ap (λ (n : ℕ). in_instance k xs + n) (share_own k x h.0))
  | inr h ↦
      let other = in_instance_push k xs x in
      let none = share_other k x h.0 in
      let before = counted k in
      ap (λ o. unwrap_or o 0) h.1 ∙ omega (arith, other, none, before)
]

-- and after one went
pub counted_remove : (m : Samples) (t : ℕ) (x : Sample) (c d : BTreeMap ℕ ℕ) → at m t ≡ Some x → IsCounted (values_of m) c
    → UpdatesBy nat_cmp (nat_cmp x.key) c d (Some (in_instance x.key (values_of m) - 1)) → IsCounted (values_of (remove_entry (is_at (nat_cmp t)) m)) d
counted_remove m t x c d there counted u k = elim (changed nat_cmp exact_nat c d x.key (Some (in_instance x.key (values_of m) - 1)) u k) [
  | inl h ↦
      let e = in_instance_remove k m t x there in
      let own = share_own k x h.0 in
      ap (λ o. unwrap_or o 0) h.1 ∙ ap (λ (q : ℕ). in_instance q (values_of m) - 1) h.0 ∙ omega (arith, e, own)
  | inr h ↦
      let e = in_instance_remove k m t x there in
      let none = share_other k x h.0 in
      let before = counted k in
      ap (λ o. unwrap_or o 0) h.1 ∙ omega (arith, e, none, before)
]
