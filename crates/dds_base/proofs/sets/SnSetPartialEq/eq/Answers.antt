use Rattle.std.proofs.Common.{◌≡◌, ℕ, List, ◌&&◌, nat_eq, ap, sym, ◌∙◌}
use Rattle.std.proofs.lemmas.Bool.{eq-eqb}
use Rattle.std.specs.Cmp.Lexicographic.{pointwise}
use Rattle.dds_base.specs.Sets.{NumberSet}
use Rattle.dds_base.specs.Words.{flags_in, words_of, AreWords}
use Rattle.dds_base.specs.WordLaws.{words_of_flags}
use Rattle.dds_base.proofs.sets.SnSetPartialEq.eq.Goals as goal

-- the words of a set are those that its flags give
words_inside : (words : List ℕ) (base : ℕ) (s : NumberSet) → AreWords words → record { base = base; flags = flags_in words } ≡ s → words ≡ words_of s.flags
words_inside words base s are view = sym (words_of_flags words are) ∙ ap (λ (t : NumberSet). words_of t.flags) view

pub returns-then-self-other : goal.returns-then-self-other
returns-then-self-other c =
    let left = words_inside c.self.inside.words c.self.inside.base c.args.self.now c.self.invariant.0 c.self.view_is in
    let right = words_inside c.other.inside.words c.other.inside.base c.args.other.now c.other.invariant.0 c.other.view_is in
    let base : c.args.self.now.base ≡ c.args.other.now.base = sym (ap (λ (s : NumberSet). s.base) c.self.view_is) ∙ c.if-self-other.true ∙ ap (λ (s : NumberSet). s.base) c.other.view_is in
    c.eq.ensures
    ∙ ap (λ ws. pointwise nat_eq ws c.other.inside.words) left
    ∙ ap (λ ws. pointwise nat_eq (words_of c.args.self.now.flags) ws) right
    ∙ ap (λ b. b && pointwise nat_eq (words_of c.args.self.now.flags) (words_of c.args.other.now.flags)) (sym (eq-eqb c.args.self.now.base c.args.other.now.base base))
