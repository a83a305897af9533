-- What is told by words, and what holds of each number below one more.
use Rattle.std.proofs.Common.{◌≡◌, ◌≢◌, ℕ, ◌+◌, ◌<◌, inl, inr, List, [], codes, Option, Some, None, IfNone, sym, subst, ◌∙◌, arith}
use Rattle.std.proofs.lemmas.Bool.{cases_eq}
use Rattle.std.proofs.lemmas.List.{append_cancel_left}
use Rattle.dds_base.specs.declared.events.Event.TheVariants as event
use Rattle.dds_lists.specs.Lists.{Lists}
use Rattle.dds_text.specs.Texts.{two_words}
use Rattle.dds_events.specs.Reading.{SaysNoEvent}
use Rattle.dds_conform.specs.declared.actions.Action.{Action}
use Rattle.dds_conform.specs.declared.actions.Action.TheVariants.{Write, Take}
use Rattle.dds_conform.specs.Actions.{IsThere, what_text}

-- what holds below a number and at it holds below the next
pub one_more : (P : ℕ → Type 0) (n : ℕ) → ((m : ℕ) → m < n → P m) → P n → (m : ℕ) → m < n + 1 → P m
one_more P n below here m lt = elim (cases_eq m n) [
  | inl same ↦ subst P (sym same) here
  | inr other ↦ below m (omega (arith, other, lt))
]

-- a text that says no event tells no write or take
pub says_none : (d : Lists) (text : List ℕ) → SaysNoEvent d text → (x : Action) → IsThere d x → what_text d x ≢ text
says_none d text none (Write w k) there = none (event.Write w k []) there
says_none d text none (Take r k) there = none (event.Take r k) there

-- one text stands after a word and a blank
one_after : (word rest text other : List ℕ) → two_words word rest ≡ text → two_words word other ≡ text → other ≡ rest
one_after word rest text other is same = append_cancel_left (codes " ") other rest (append_cancel_left word _ _ (same ∙ sym is))

-- where no action stands after the word and a blank, none does with them
pub after_none : (o : Option Action) (d : Lists) (word rest text : List ℕ) → two_words word rest ≡ text → IfNone o ((x : Action) → IsThere d x → what_text d x ≢ rest)
    → IfNone o ((x : Action) → IsThere d x → two_words word (what_text d x) ≢ text)
after_none (Some x) d word rest text is none = tt
after_none None d word rest text is none = λ x there same. none x there (one_after word rest text (what_text d x) is same)
