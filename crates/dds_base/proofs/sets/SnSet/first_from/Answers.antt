use Rattle.std.proofs.Common.{◌≡◌, ℕ, ◌+◌, ◌-◌, ◌<◌, ◌≤◌, true, false, leb, Bool, List, length, get_or, ap, sym, refl, ◌∙◌, arith, inl, inr}
use Rattle.std.proofs.lemmas.Bool.{cases_lt, lt-leb, le-leb, false≢true, and_right}
use Rattle.std.proofs.lemmas.List.{get_or_past}
use Rattle.dds_base.specs.Sets.{has, has_flag}
use Rattle.dds_base.specs.Words.{flags_in}
use Rattle.dds_base.specs.WordLaws.{length-flags_in}
use Rattle.dds_base.proofs.sets.SnSet.first_from.Goals as goal

leb_le : (a b : ℕ) → leb a b ≡ true → a ≤ b
leb_le a b h = elim (cases_lt b a) [
  | inl above ↦ absurd (false≢true (sym (lt-leb a b above) ∙ h))
  | inr low ↦ low
]

-- where no flag from one on is set up to another, the numbers of these flags aren't in the set
none_before : (base from first : ℕ) (flags : List Bool) (n : ℕ) → length flags ≡ 256 → ((k : ℕ) → k < 256 → leb first k ≡ leb from (base + k)) → from ≤ n → (base ≤ n → first ≤ n - base → get_or flags (n - base) false ≡ false) → has_flag base flags n ≡ false
none_before base from first flags n long answer above unset = elim (cases_lt n base) [
  | inl below ↦ rw (lt-leb base n below) refl
  | inr in_set ↦ and_right (leb base n) (get_or flags (n - base) false) (elim (cases_lt (n - base) 256) [
    | inr past ↦ get_or_past flags (n - base) false (omega (arith, long, past))
    | inl within ↦
        let at : base + (n - base) ≡ n = omega arith in
        unset in_set (leb_le first (n - base) (answer (n - base) within ∙ ap (leb from) at ∙ le-leb from n above))
  ])
]

pub returns-in_err-k : goal.returns-in_err-k
returns-in_err-k c = rw c.from_residual.ensures (λ n above. sym (ap (λ s. has s n) c.self.view_is)
    ∙ none_before c.self.inside.base c.args.from c.flags_below.result (flags_in c.self.inside.words) n (length-flags_in c.self.inside.words) c.flags_below.ensures.answer above (λ in_set first. c.in_err-k.ensures (n - c.self.inside.base) first))

pub returns : goal.returns
returns c =
    let base : ℕ = c.self.inside.base in
    let k : ℕ = c.in_ok-k.k in
    let found = c.in_ok-k.ensures in
    let at : c.self.inside.base + c.in_ok-k.k - c.self.inside.base ≡ c.in_ok-k.k = omega arith in (
      leb_le c.args.from (base + k) (sym (c.flags_below.ensures.answer k found.1) ∙ le-leb c.flags_below.result k found.0),
      c.self.invariant.3 k found.2,
      sym (ap (λ s. has s (base + k)) c.self.view_is) ∙ rw (le-leb c.self.inside.base (c.self.inside.base + c.in_ok-k.k) (omega arith), at) found.2,
      λ n above below. sym (ap (λ s. has s n) c.self.view_is)
          ∙ none_before c.self.inside.base c.args.from c.flags_below.result (flags_in c.self.inside.words) n (length-flags_in c.self.inside.words) c.flags_below.ensures.answer above (λ in_set first. found.3 (n - c.self.inside.base) first (omega (arith, below, in_set))),
    )
