-- What writes put in flight by the weights of samples.
use Rattle.std.proofs.Common.{ℕ, ◌≡◌, ◌+◌, ◌<◌, ◌==◌, ◌&&◌, Bool, true, false, if◌then◌else◌, inl, inr, refl, sym, ap, ◌∙◌, subst, arith}
use Rattle.std.proofs.lemmas.Bool.{cases_eq, eq-eqb, ne_eqb}
use Rattle.dds_base.specs.Sums.{total}
use Rattle.dds_base.proofs.SumLaws.{total_ext, total_zero, total_add, total_one}
use Rattle.dds_match.specs.Network.{Network}
use Rattle.dds_propose.specs.Relaxation.{by_permits, spread_by}

-- the reader hears the key, and no caps carry it
abbrev pub heard : Network → ℕ → ℕ → Bool
heard net r k = net.hears r k && by_permits net r k

-- nothing either way
pub neither : (b : Bool) (n : ℕ) → n ≡ 0 → (if b then n else 0) ≡ 0
neither true n none = none
neither false n none = refl

-- n at one place
abbrev only_at : ℕ → ℕ → ℕ → ℕ
only_at r n x = if x == r then n else 0

pub spread_same : (net : Network) (f g : ℕ → ℕ → ℕ) → ((r k : ℕ) → f r k ≡ g r k) → (w k : ℕ) → spread_by net f w k ≡ spread_by net g w k
spread_same net f g same w k = total_ext _ _ net.readers (λ r below. ap (λ n. if net.matched w r && heard net r k then n else 0) (same r k))

pub spread_none : (net : Network) (f : ℕ → ℕ → ℕ) → ((r k : ℕ) → f r k ≡ 0) → (w k : ℕ) → spread_by net f w k ≡ 0
spread_none net f none w k = total_zero _ net.readers (λ r below. neither (net.matched w r && heard net r k) (f r k) (none r k))

-- where weights are the sums of two, so is what they put in flight
pub spread_sum : (net : Network) (f g h : ℕ → ℕ → ℕ) → ((r k : ℕ) → f r k ≡ g r k + h r k) → (w k : ℕ) → spread_by net f w k ≡ spread_by net g w k + spread_by net h w k
spread_sum net f g h sum w k =
    total_ext _ (λ r. (if net.matched w r && heard net r k then g r k else 0) + (if net.matched w r && heard net r k then h r k else 0)) net.readers (λ r below. go (net.matched w r && heard net r k) (f r k) (g r k) (h r k) (sum r k))
    ∙ total_add _ _ net.readers
  where
    go : (b : Bool) (x y z : ℕ) → x ≡ y + z → (if b then x else 0) ≡ (if b then y else 0) + (if b then z else 0)
    go true x y z e = e
    go false x y z e = refl

-- without the n of one key of a reader that hears it, which no caps carry
pub spread_without : (net : Network) (f g : ℕ → ℕ → ℕ) (r k n : ℕ) → r < net.readers → heard net r k ≡ true → f r k ≡ n → g r k ≡ 0 → ((x j : ℕ) → ((x ≡ r) × (j ≡ k) → ⊥) → g x j ≡ f x j)
    → (w j : ℕ) → spread_by net f w j ≡ spread_by net g w j + (if (j == k) && net.matched w r then n else 0)
spread_without net f g r k n there hears at gone beside w j = elim (cases_eq j k) [
  | inl own ↦ subst (λ i. spread_by net f w i ≡ spread_by net g w i + (if (i == k) && net.matched w r then n else 0)) (sym own) (rw (eq-eqb k k refl) here)
  | inr ne ↦ rw (ne_eqb j k ne) (let same = total_ext (λ x. if net.matched w x && heard net x j then f x j else 0) (λ x. if net.matched w x && heard net x j then g x j else 0) net.readers (λ x below. ap (λ m. if net.matched w x && heard net x j then m else 0) (sym (beside x j (λ e. ne e.1)))) in omega arith)
]
  where
    heard_part : (b : Bool) (h : Bool) (m : ℕ) → h ≡ true → (if b && h then m else 0) ≡ (if b then m else 0)
    heard_part true h m e = rw e refl
    heard_part false h m e = refl

    each : (x : ℕ) → (if net.matched w x && heard net x k then f x k else 0) ≡ (if net.matched w x && heard net x k then g x k else 0) + only_at r (if net.matched w r then n else 0) x
    each x = elim (cases_eq x r) [
      | inl e ↦ subst (λ y. (if net.matched w y && heard net y k then f y k else 0) ≡ (if net.matched w y && heard net y k then g y k else 0) + (if y == r then (if net.matched w r then n else 0) else 0)) (sym e)
          (rw (eq-eqb r r refl, gone, at, neither (net.matched w r && heard net r k) 0 refl, heard_part (net.matched w r) (heard net r k) n hears) (omega arith))
      | inr ne ↦ rw (ne_eqb x r ne, beside x k (λ e. ne e.0)) (omega arith)
    ]

    only : total net.readers (only_at r (if net.matched w r then n else 0)) ≡ (if net.matched w r then n else 0)
    only = total_one (only_at r (if net.matched w r then n else 0)) net.readers r there (λ x ne. rw (ne_eqb x r (λ e. ne (sym e))) refl) ∙ rw (eq-eqb r r refl) refl

    here : spread_by net f w k ≡ spread_by net g w k + (if net.matched w r then n else 0)
    here = total_ext _ _ net.readers (λ x below. each x) ∙ (total_add _ _ net.readers ∙ ap (λ m. spread_by net g w k + m) only)

-- what caps carry counts nothing
pub spread_past : (net : Network) (f g : ℕ → ℕ → ℕ) (r k : ℕ) → by_permits net r k ≡ false → ((x j : ℕ) → ((x ≡ r) × (j ≡ k) → ⊥) → g x j ≡ f x j) → (w j : ℕ) → spread_by net f w j ≡ spread_by net g w j
spread_past net f g r k capped beside w j = total_ext _ _ net.readers (λ x below. each x)
  where
    none : (a b p : Bool) (n m : ℕ) → p ≡ false → (if a && (b && p) then n else 0) ≡ (if a && (b && p) then m else 0)
    none true true p n m e = rw e refl
    none true false p n m e = refl
    none false b p n m e = refl

    each : (x : ℕ) → (if net.matched w x && heard net x j then f x j else 0) ≡ (if net.matched w x && heard net x j then g x j else 0)
    each x = elim (cases_eq x r) [
      | inl own ↦ elim (cases_eq j k) [
        | inl same ↦ none (net.matched w x) (net.hears x j) (by_permits net x j) (f x j) (g x j) (ap (λ y. by_permits net y j) own ∙ (ap (by_permits net r) same ∙ capped))
        | inr ne ↦ ap (λ m. if net.matched w x && heard net x j then m else 0) (sym (beside x j (λ e. ne e.1)))
      ]
      | inr ne ↦ ap (λ m. if net.matched w x && heard net x j then m else 0) (sym (beside x j (λ e. ne e.0)))
    ]
