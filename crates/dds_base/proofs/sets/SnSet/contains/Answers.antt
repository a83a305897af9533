use Rattle.std.proofs.Common.{◌≡◌, ℕ, ◌-◌, ◌≤◌, false, leb, ltb, ap, sym, refl, ◌∙◌, arith, inl, inr}
use Rattle.std.proofs.lemmas.Bool.{cases_lt, lt-leb, lt-ltb, and_right, false≢true}
use Rattle.std.proofs.lemmas.List.{get_or_past}
use Rattle.dds_base.specs.Sets.{has}
use Rattle.dds_base.specs.Words.{flags_in}
use Rattle.dds_base.specs.WordLaws.{length-flags_in}
use Rattle.dds_base.proofs.sets.SnSet.contains.Goals as goal
use Rattle.dds_base.proofs.sets.SnSet.contains.Goals.{then-n-self, else-n-self}

far : (k : ℕ) → ltb k 256 ≡ false → 256 ≤ k
far k past = elim (cases_lt k 256) [
  | inl low ↦ absurd (false≢true (sym past ∙ lt-ltb k 256 low))
  | inr high ↦ high
]

pub returns-else-n-self-lt256-clause-answer : goal.returns-else-n-self-lt256-clause-answer
returns-else-n-self-lt256-clause-answer c = c.if-n-self-lt256.false ∙ sym (sym (ap (λ s. has s c.args.n) c.self.view_is) ∙ elim c.if-n-self.branch [
  | then-n-self w ↦ and_right (leb c.self.inside.base c.args.n) _ (get_or_past (flags_in c.self.inside.words) (c.args.n - c.self.inside.base) false
      (omega (arith, length-flags_in c.self.inside.words, far (c.args.n - c.self.inside.base) (sym w.value-is ∙ c.if-n-self-lt256.false))))
  | else-n-self w ↦ rw (lt-leb c.self.inside.base c.args.n (omega (arith, w.if-n-self.false))) refl
])
