-- The errors that lint finds, and what the check says.
use Rattle.std.specs.Prelude.{ℕ, ◌≡◌, Bool, true, false, not, List, Option, Some, None}
use Rattle.std.specs.List.{list_any}
use Rattle.dds_answers.specs.Outcome.{Outcome, accepted, outcome}
use Rattle.dds_answers.specs.declared.answer.Answer.{Answer}
use Rattle.dds_findings.specs.Findings.{Matter, is_error}
use Rattle.dds_options.specs.declared.deny.Deny.{Deny}
use Rattle.dds_options.specs.declared.deny.Deny.TheVariants as deny

-- one finding at least is an error
abbrev pub has_error : List Matter → Bool
has_error found = list_any (λ m. is_error m.0) found

-- the check says yes
abbrev pub says_yes : Outcome → Bool
says_yes (accepted d c) = true
says_yes _ = false

-- of two files there's an error exactly where the check of them doesn't say yes; of a deployment alone there's one only where the check says yes to no
-- certificate of it
abbrev pub AgreesWithCheck : (deployment : List ℕ) → (certificate : Option (List ℕ)) → List Matter → Type 0
AgreesWithCheck d (Some c) found = has_error found ≡ not (says_yes (outcome d c))
AgreesWithCheck d None found = has_error found ≡ true → (c : List ℕ) → says_yes (outcome d c) ≡ false

-- where errors alone are denied, the answer to two files is yes exactly where the check of them says yes, and a no to a deployment alone says that the check
-- says yes to no certificate of it; where notes are denied too, a yes to two files says no less
abbrev pub AnswersAsCheck : Deny → (deployment : List ℕ) → (certificate : Option (List ℕ)) → Answer → Type 0
AnswersAsCheck deny.Errors d (Some c) answer = answer.is_yes ≡ says_yes (outcome d c)
AnswersAsCheck deny.Errors d None answer = answer.is_yes ≡ false → (c : List ℕ) → says_yes (outcome d c) ≡ false
AnswersAsCheck (deny.Notes allowed) d (Some c) answer = answer.is_yes ≡ true → says_yes (outcome d c) ≡ true
AnswersAsCheck (deny.Notes allowed) d None answer = Unit {0}
AnswersAsCheck (deny.All allowed) d (Some c) answer = answer.is_yes ≡ true → says_yes (outcome d c) ≡ true
AnswersAsCheck (deny.All allowed) d None answer = Unit {0}
