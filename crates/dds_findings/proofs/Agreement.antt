-- Errors are found exactly where the check doesn't say yes.
use Rattle.std.proofs.Common.{ℕ, ◌≡◌, ◌∙◌, ◌<◌, ◌-◌, ◌||◌, Bool, true, false, zero, suc, eq-eqb, if◌then◌else◌, not, subst, List, [], ◌∷◌, ◌++◌, map, slice_get, string_bytes, Option, Some, None, is_some, Result, Ok, Err, IfOk, refl, sym, ap, ap₂, arith, inl, inr}
use Rattle.std.specs.List.{list_any}
use Rattle.std.specs.Prelude.{◌==◌, count_by, nat_lt}
use Rattle.std.proofs.lemmas.Bool.{cases_lt, false≢true, or_cases}
use Rattle.std.proofs.lemmas.List.Folds.{list_any-append}
use Rattle.dds_fields.specs.Reading.{Read}
use Rattle.dds_lists.specs.Lists.{Lists}
use Rattle.dds_deploy.specs.Document as deployment
use Rattle.dds_match.specs.Plan.{network_of}
use Rattle.dds_weights.specs.Lists.{Certificate}
use Rattle.dds_cert.specs.Document as certificate
use Rattle.dds_check.specs.declared.verdict.No.{No}
use Rattle.dds_check.specs.declared.verdict.Number.{Number}
use Rattle.dds_check.specs.declared.verdict.Number.TheVariants as number
use Rattle.dds_check.specs.Verdict.{number_of}
use Rattle.dds_check.specs.Accepts.{first_no}
use Rattle.dds_lint.specs.Conditions.{all_nos, bare_nos, bounds_nos, depths_nos, instances_nos, joins_nos, pairs_nos, profile_nos, rows_nos, shown_nos, written_nos}
use Rattle.dds_lint.specs.Endless.{AreRefused, endless_rules}
use Rattle.dds_lint.specs.Every.{every_below}
use Rattle.dds_lint.specs.declared.endless.EndlessRule.{EndlessRule}
use Rattle.dds_lint.specs.declared.notes.Note.{Note}
use Rattle.dds_lint.proofs.FirstOfAll.{first_of_all}
use Rattle.dds_answers.specs.Outcome.{judged, outcome, planned, verdict}
use Rattle.dds_answers.specs.declared.answer.Answer.{Answer}
use Rattle.dds_findings.specs.Agreement.{AgreesWithCheck, AnswersAsCheck, has_error, says_yes}
use Rattle.dds_findings.specs.Answers.{is_clean}
use Rattle.dds_findings.specs.Findings.{AreFaults, IsBare, IsFound, IsJudged, IsLint, Matter, endless_matter, fault_matter, first_of_kind, has_kind, is_denied, is_denied_about, is_error, matters, more_notes, no_certificate, note_matter, of_kind, of_lists, of_number}
use Rattle.dds_findings.specs.Kinds.{kind_of}
use Rattle.dds_options.specs.Deny.{is_denied_note}
use Rattle.dds_options.specs.Kinds.{kinds}
use Rattle.dds_options.specs.declared.deny.Deny.{Deny}
use Rattle.dds_options.specs.declared.deny.Deny.TheVariants as deny
use Rattle.dds_findings.specs.declared.finding.About.{About}
use Rattle.dds_findings.specs.declared.finding.About.TheVariants as about
use Rattle.dds_findings.specs.declared.finding.Finding.{Finding}

-- ── conditions that fail and faults are errors, and notes are none
has_one : List No → Bool
has_one nos = is_some (slice_get nos 0)

two_errors : (xs ys : List Matter) → has_error (xs ++ ys) ≡ (has_error xs || has_error ys)
two_errors xs ys = list_any-append (λ (m : Matter). is_error m.0) xs ys

-- where none of several lists has an error, nor have all of them
no_errors : (n : ℕ) (f : ℕ → List Matter) → ((i : ℕ) → has_error (f i) ≡ false) → has_error (every_below n f) ≡ false
unfolding every_below
no_errors zero f none = refl
no_errors (suc n) f none = two_errors (every_below n f) (f n) ∙ ap₂ (λ a b. a || b) (no_errors n f none) (none n)

or_true : (a b : Bool) → b ≡ true → (a || b) ≡ true
or_true true b h = refl
or_true false b h = h

-- one of them that has one is enough
some_errors : (n : ℕ) (f : ℕ → List Matter) (i : ℕ) → i < n → has_error (f i) ≡ true → has_error (every_below n f) ≡ true
unfolding every_below
some_errors zero f i inside has = absurd (omega (arith, inside))
some_errors (suc n) f i inside has = elim (cases_lt i n) [
  | inl less ↦ two_errors (every_below n f) (f n) ∙ ap (λ a. a || has_error (f n)) (some_errors n f i less has)
  | inr more ↦
      let last : i ≡ n = omega (arith, more, inside) in
      two_errors (every_below n f) (f n) ∙ or_true (has_error (every_below n f)) (has_error (f n)) (subst (λ j. has_error (f j) ≡ true) last has)
]

number_below : (n : Number) → number_of n < 34
number_below number.IntendedNotMatched = omega arith
number_below number.UnintendedMatch = omega arith
number_below number.WriterKeepsLast = omega arith
number_below number.Exclusive = omega arith
number_below number.SourceOrder = omega arith
number_below number.OrderedOrCoherent = omega arith
number_below number.WriterBestEffort = omega arith
number_below number.ReaderInstances = omega arith
number_below number.NoBound = omega arith
number_below number.BoundOverInstanceLimit = omega arith
number_below number.BoundOverSamples = omega arith
number_below number.WriterInstances = omega arith
number_below number.KeepLastFilter = omega arith
number_below number.WriterDepth = omega arith
number_below number.LateVolatile = omega arith
number_below number.LateHistory = omega arith
number_below number.TakeRaises = omega arith
number_below number.RuleRaises = omega arith
number_below number.WriteRaises = omega arith
number_below number.BoundNotShown = omega arith

-- the first condition is listed with its number
first_errors : (refused : No) (nos : List No) → has_error (of_number (refused ∷ nos) (number_of refused.number)) ≡ true
first_errors refused nos = let same : (number_of refused.number == number_of refused.number) ≡ true = eq-eqb (number_of refused.number) (number_of refused.number) refl in rw same refl

conditions_errors : (nos : List No) → has_error (every_below 34 (of_number nos)) ≡ is_some (slice_get nos 0)
conditions_errors [] = no_errors 34 (of_number []) (λ i. refl)
conditions_errors (refused ∷ nos) = some_errors 34 (of_number (refused ∷ nos)) (number_of refused.number) (number_below refused.number) (first_errors refused nos)

first_notes : (d : Lists) (cert : Certificate) (notes : List Note) → has_error (map (note_matter d cert) notes) ≡ false
first_notes d cert [] = refl
first_notes d cert (note ∷ notes) = first_notes d cert notes

counted_notes : (like : Note) (n : ℕ) (more : Bool) → has_error (if more then (about.MoreNotes like n, []) ∷ [] else []) ≡ false
counted_notes like n true = refl
counted_notes like n false = refl

further_notes : (notes : List Note) (count : ℕ) → has_error (more_notes notes count) ≡ false
further_notes [] count = refl
further_notes (like ∷ notes) count = counted_notes like (count - 1000) (nat_lt 1000 count)

kind_errors : (d : Lists) (cert : Certificate) (notes : List Note) (n : ℕ) → has_error (of_kind d cert notes n) ≡ false
kind_errors d cert notes n =
    two_errors (map (note_matter d cert) (first_of_kind n notes)) (more_notes (first_of_kind n notes) (count_by (has_kind n) notes))
    ∙ ap₂ (λ a b. a || b) (first_notes d cert (first_of_kind n notes)) (further_notes (first_of_kind n notes) (count_by (has_kind n) notes))

notes_errors : (d : Lists) (cert : Certificate) (notes : List Note) → has_error (every_below kinds (of_kind d cert notes)) ≡ false
notes_errors d cert notes = no_errors kinds (of_kind d cert notes) (kind_errors d cert notes)

or_false : (b : Bool) → (b || false) ≡ b
or_false true = refl
or_false false = refl

endless_errors : (rules : List EndlessRule) → has_error (map endless_matter rules) ≡ is_some (slice_get rules 0)
endless_errors [] = refl
endless_errors (rule ∷ rules) = refl

-- there's a rule for which no certificate is accepted
has_endless : Lists → Bool
has_endless d = is_some (slice_get (endless_rules (network_of d)) 0)

later_errors : (d : Lists) (cert : Certificate) (notes : List Note) → has_error (map endless_matter (endless_rules (network_of d)) ++ every_below kinds (of_kind d cert notes)) ≡ has_endless d
unfolding has_endless
later_errors d cert notes =
    two_errors (map endless_matter (endless_rules (network_of d))) (every_below kinds (of_kind d cert notes))
    ∙ (ap₂ (λ a b. a || b) (endless_errors (endless_rules (network_of d))) (notes_errors d cert notes) ∙ or_false (is_some (slice_get (endless_rules (network_of d)) 0)))

lists_errors : (d : Lists) (cert : Certificate) (nos : List No) (notes : List Note) → has_error (of_lists d cert nos notes) ≡ (is_some (slice_get nos 0) || has_endless d)
lists_errors d cert nos notes =
    two_errors (every_below 34 (of_number nos)) (map endless_matter (endless_rules (network_of d)) ++ every_below kinds (of_kind d cert notes))
    ∙ ap₂ (λ a b. a || b) (conditions_errors nos) (later_errors d cert notes)

-- where there's one, the check says no
endless_fails : (d : Lists) (cert : Certificate) → AreRefused d → has_endless d ≡ true → is_some (first_no d cert) ≡ true
unfolding has_endless
endless_fails d cert refused has = go (first_no d cert) refl
  where
    go : (o : Option No) → first_no d cert ≡ o → is_some o ≡ true
    go None none = absurd (false≢true (sym (ap (λ (rules : List EndlessRule). is_some (slice_get rules 0)) (refused cert none)) ∙ has))
    go (Some failing) is = refl

-- so it adds nothing to the conditions that fail
none_added : (d : Lists) (cert : Certificate) → AreRefused d → (is_some (first_no d cert) || has_endless d) ≡ is_some (first_no d cert)
none_added d cert refused = go (is_some (first_no d cert)) (has_endless d) (endless_fails d cert refused)
  where
    go : (a b : Bool) → (b ≡ true → a ≡ true) → (a || b) ≡ a
    go true b more = refl
    go false true more = sym (more refl)
    go false false more = refl

faults_errors : (found : List Matter) → AreFaults found → has_error found ≡ true
faults_errors [] (some, all) = absurd (omega (arith, some))
faults_errors (one ∷ found) (some, all) =
    let first : one ≡ fault_matter = all 0 one some in
    ap (λ (m : Matter). is_error m.0 || has_error found) first

-- ── the check of what was read
verdict_says : (o : Option No) (d : Lists) (cert : Certificate) → is_some o ≡ not (says_yes (verdict o d cert))
verdict_says None d cert = refl
verdict_says (Some refused) d cert = refl

judged_agrees : (d : Lists) (read : Read Certificate) (found : List Matter) → AreRefused d → IsJudged d read found → has_error found ≡ not (says_yes (judged d read))
judged_agrees d (Ok cert) found refused (notes, are, same) =
    ap has_error same
    ∙ (lists_errors d cert (all_nos d cert) notes
    ∙ (ap (λ o. is_some o || has_endless d) (first_of_all d cert) ∙ (none_added d cert refused ∙ verdict_says (first_no d cert) d cert)))
judged_agrees d (Err flaw) found refused (faults, rest, are, bare, same) =
    ap has_error same ∙ (list_any-append (λ (m : Matter). is_error m.0) faults rest ∙ ap (λ b. b || has_error rest) (faults_errors faults are))

-- ── what asks no certificate fails with each
has_two : (xs ys : List No) → has_one (xs ++ ys) ≡ (has_one xs || has_one ys)
unfolding has_one
has_two [] ys = refl
has_two (x ∷ xs) ys = refl

bare_has : (d : Lists)
    → has_one (bare_nos d)
    ≡ ((((has_one (pairs_nos (network_of d)) || has_one (profile_nos d)) || has_one (instances_nos (network_of d))) || has_one (written_nos (network_of d)))
    || has_one (joins_nos (network_of d)))
unfolding bare_nos
bare_has d = simp has_two

all_has : (d : Lists) (cert : Certificate)
    → has_one (all_nos d cert)
    ≡ (((((has_one (pairs_nos (network_of d)) || has_one (profile_nos d))
    || (((has_one (instances_nos (network_of d)) || has_one (bounds_nos (network_of d) cert)) || has_one (written_nos (network_of d))) || has_one (depths_nos (network_of d) cert)))
    || has_one (joins_nos (network_of d)))
    || has_one (rows_nos (network_of d) cert.rows))
    || has_one (shown_nos (network_of d) cert))
unfolding all_nos
all_has d cert = simp has_two

more_or : (p q i w j b e r s : Bool) → ((((p || q) || i) || w) || j) ≡ true → ((((p || q) || (((i || b) || w) || e)) || j) || r || s) ≡ true
more_or true q i w j b e r s h = refl
more_or false true i w j b e r s h = refl
more_or false false true w j b e r s h = refl
more_or false false false true j true e r s h = refl
more_or false false false true j false e r s h = refl
more_or false false false false true true e r s h = refl
more_or false false false false true false true r s h = refl
more_or false false false false true false false r s h = refl
more_or false false false false false b e r s h = cc

bare_fails : (d : Lists) (cert : Certificate) → has_one (bare_nos d) ≡ true → is_some (first_no d cert) ≡ true
unfolding has_one
bare_fails d cert some =
    ap is_some (sym (first_of_all d cert))
    ∙ (all_has d cert
    ∙ more_or (has_one (pairs_nos (network_of d))) (has_one (profile_nos d)) (has_one (instances_nos (network_of d))) (has_one (written_nos (network_of d))) (has_one (joins_nos (network_of d)))
    (has_one (bounds_nos (network_of d) cert)) (has_one (depths_nos (network_of d) cert)) (has_one (rows_nos (network_of d) cert.rows)) (has_one (shown_nos (network_of d) cert)) (sym (bare_has d) ∙ some))

verdict_refuses : (o : Option No) (d : Lists) (cert : Certificate) → is_some o ≡ true → says_yes (verdict o d cert) ≡ false
verdict_refuses None d cert some = cc
verdict_refuses (Some refused) d cert some = refl

bare_refuses : (d : Lists) (read : Read Certificate) → AreRefused d → (is_some (slice_get (bare_nos d) 0) || has_endless d) ≡ true → says_yes (judged d read) ≡ false
unfolding has_one
bare_refuses d (Ok cert) refused some =
    verdict_refuses (first_no d cert) d cert (elim (or_cases (is_some (slice_get (bare_nos d) 0)) (has_endless d) some) [
      | inl bare ↦ bare_fails d cert bare
      | inr endless ↦ endless_fails d cert refused endless
    ])
bare_refuses d (Err flaw) refused some = refl

bare_agrees : (d : Lists) (found : List Matter) → AreRefused d → IsBare d found → has_error found ≡ true → (c : List ℕ) → says_yes (planned (Ok d) c) ≡ false
bare_agrees d found refused (notes, are, same) has c =
    bare_refuses d (certificate.read d c) refused (sym (ap has_error same ∙ lists_errors d no_certificate (bare_nos d) notes) ∙ has)

-- ── lint and the check read the same files
found_agrees : (read : Read Lists) (d : List ℕ) (c : Option (List ℕ)) (found : List Matter) → read ≡ deployment.read d → IfOk read AreRefused → IsFound read c found → AgreesWithCheck d c found
unfolding outcome
found_agrees (Err flaw) d None found is refused faults = λ has c. ap (λ r. says_yes (planned r c)) (sym is)
found_agrees (Err flaw) d (Some c) found is refused faults = faults_errors found faults ∙ ap (λ r. not (says_yes (planned r c))) is
found_agrees (Ok lists) d None found is refused bare = λ has c. ap (λ r. says_yes (planned r c)) (sym is) ∙ bare_agrees lists found refused bare has c
found_agrees (Ok lists) d (Some c) found is refused judged = judged_agrees lists (certificate.read lists c) found refused judged ∙ ap (λ r. not (says_yes (planned r c))) is

lint_agrees : (d : List ℕ) (c : Option (List ℕ)) (found : List Matter) → IfOk (deployment.read d) AreRefused → IsLint d c found → AgreesWithCheck d c found
unfolding IsLint
lint_agrees d c found refused lint = found_agrees (deployment.read d) d c found refl refused lint

-- what lint finds agrees with the check
pub found_as_check : {V E : Type 0} (items : V → List Finding) (d : List ℕ) (c : Option (List ℕ)) (r : Result V E) → IfOk r (λ v. IsLint d c (matters (items v)))
    → IfOk r (λ v. IfOk (deployment.read d) AreRefused) → IfOk r (λ v. AgreesWithCheck d c (matters (items v)))
found_as_check items d c (Ok v) lint refused = lint_agrees d c (matters (items v)) refused lint
found_as_check items d c (Err e) lint refused = tt

-- ── the answer of lint
-- where errors alone are denied, none is denied exactly where there's no error
one_denied : (subject : List ℕ) (a : About) → is_denied_about deny.Errors subject a ≡ is_error a
one_denied subject about.Fault = refl
one_denied subject (about.Condition refused) = refl
one_denied subject (about.MoreConditions like n) = refl
one_denied subject (about.Endless rule) = refl
one_denied subject (about.Note note) = refl
one_denied subject (about.MoreNotes like n) = refl

errors_denied : (findings : List Finding) → list_any (is_denied deny.Errors) findings ≡ has_error (matters findings)
errors_denied [] = refl
errors_denied (one ∷ findings) = ap₂ (λ a b. a || b) (one_denied (string_bytes one.subject) one.about) (errors_denied findings)

-- each error is denied
or_right : (a b : Bool) → (a || b) ≡ false → b ≡ false
or_right true b h = cc
or_right false b h = h

none_step : (denied : Deny) (subject : List ℕ) (one : About) (rest any : Bool) → (any ≡ false → rest ≡ false) → (is_denied_about denied subject one || any) ≡ false
    → (is_error one || rest) ≡ false
none_step denied subject about.Fault rest any step h = h
none_step denied subject (about.Condition refused) rest any step h = h
none_step denied subject (about.MoreConditions like n) rest any step h = h
none_step denied subject (about.Endless rule) rest any step h = h
none_step denied subject (about.Note note) rest any step h = step (or_right (is_denied_note denied (kind_of note) subject) any h)
none_step denied subject (about.MoreNotes like n) rest any step h = step (or_right (is_denied_note denied (kind_of like) subject) any h)

none_denied : (denied : Deny) (findings : List Finding) → list_any (is_denied denied) findings ≡ false → has_error (matters findings) ≡ false
none_denied denied [] h = refl
none_denied denied (one ∷ findings) h =
    none_step denied (string_bytes one.subject) one.about (has_error (matters findings)) (list_any (is_denied denied) findings) (none_denied denied findings) h

not_not : (b : Bool) → not (not b) ≡ b
not_not true = refl
not_not false = refl

not_false : (b : Bool) → not b ≡ false → b ≡ true
not_false true h = refl
not_false false h = cc

not_true : (b : Bool) → not b ≡ true → b ≡ false
not_true true h = cc
not_true false h = refl

-- whatever is denied, a yes to two files is one of the check
yes_agrees : (denied : Deny) (d c : List ℕ) (answer : Answer) (findings : List Finding) → AgreesWithCheck d (Some c) (matters findings) → answer.is_yes ≡ is_clean denied findings
    → answer.is_yes ≡ true → says_yes (outcome d c) ≡ true
yes_agrees denied d c answer findings agrees clean holds =
    not_false (says_yes (outcome d c)) (sym agrees ∙ none_denied denied findings (not_true (list_any (is_denied denied) findings) (sym clean ∙ holds)))

as_check : (denied : Deny) (d : List ℕ) (c : Option (List ℕ)) (answer : Answer) (findings : List Finding) → AgreesWithCheck d c (matters findings)
    → answer.is_yes ≡ is_clean denied findings → AnswersAsCheck denied d c answer
as_check deny.Errors d (Some c) answer findings agrees clean = clean ∙ (ap not (errors_denied findings ∙ agrees) ∙ not_not (says_yes (outcome d c)))
as_check deny.Errors d None answer findings agrees clean =
    λ denies c. agrees (not_false (has_error (matters findings)) (sym (clean ∙ ap not (errors_denied findings)) ∙ denies)) c
as_check (deny.Notes allowed) d (Some c) answer findings agrees clean = yes_agrees (deny.Notes allowed) d c answer findings agrees clean
as_check (deny.Notes allowed) d None answer findings agrees clean = tt
as_check (deny.All allowed) d (Some c) answer findings agrees clean = yes_agrees (deny.All allowed) d c answer findings agrees clean
as_check (deny.All allowed) d None answer findings agrees clean = tt

-- an answer that is yes where findings are clean agrees with the check as they do
pub answers_as_check : {E : Type 0} (P : Answer → Type 0) (denied : Deny) (d : List ℕ) (c : Option (List ℕ)) (findings : List Finding) (b : Bool) (r : Result Answer E)
    → b ≡ is_clean denied findings → IfOk r (λ a. (a.is_yes ≡ b) × P a) → AgreesWithCheck d c (matters findings) → IfOk r (AnswersAsCheck denied d c)
answers_as_check P denied d c findings b (Ok answer) clean is agrees = as_check denied d c answer findings agrees (is.0 ∙ clean)
answers_as_check P denied d c findings b (Err e) clean is agrees = tt
