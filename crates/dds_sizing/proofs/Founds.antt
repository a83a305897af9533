-- How a search for a certificate ends.
use Rattle.std.proofs.Common.{◌≡◌, ◌≤◌, ◌<◌, ℕ, Bool, false, true, None, Some, Result, Ok, Err, IfOk, IsOk, OnOk, String, Global, List, ap, inl, inr, length, option_map, nat_le, refl, string_bytes, subst, sym, if◌then◌else◌}
use Rattle.std.proofs.lemmas.Bool.{le-leb, lt-leb, leb-true}
use Rattle.dds_lists.specs.Lists.{Lists}
use Rattle.dds_weights.specs.Lists.{Certificate}
use Rattle.dds_weights.specs.Text.{certificate_text}
use Rattle.dds_weights.specs.Views.{certificate_view}
use Rattle.dds_weights.specs.declared.certificate.Certificate.{Certificate as CodeCertificate}
use Rattle.dds_answers.specs.declared.answer.Answer.{Answer}
use Rattle.dds_answers.specs.declared.fault.ToolFault.{ToolFault}
use Rattle.dds_answers.specs.declared.fault.ToolFault.TheVariants as fault
use Rattle.dds_answers.specs.Answers.{Gives, IsAnswer}
use Rattle.dds_answers.specs.Outcome.{Outcome, proposed, unproposed}
use Rattle.dds_answers.specs.Report.{Ends, output_of}
use Rattle.dds_match.specs.Plan.{network_of}
use Rattle.dds_weights.specs.Fits.{fits}
use Rattle.dds_check.specs.Accepts.{first_no}
use Rattle.dds_search.specs.Answers.{IfCertificate}
use Rattle.dds_search.specs.declared.answer.Found.{Found}
use Rattle.dds_search.specs.declared.answer.Found.TheVariants as found
use Rattle.dds_search.specs.declared.answer.Missing.{Missing}
use Rattle.dds_answers.specs.Reading.{most_bytes}
use Rattle.dds_sizing.specs.Missing.{IsMissingText}
use Rattle.dds_sizing.specs.Searches.{IsAccepted, MayFind, SaysWhy, found_end}

text_of : (lists : Lists) (cert : Certificate) (answer : Answer) → IsAnswer answer (proposed lists cert) → string_bytes answer.text ≡ certificate_text lists cert
unfolding output_of
text_of lists cert answer is = is.0

-- the answer with a certificate whose text is short enough stays, and of another one it's said that none was found
pub short_gives : (lists : Lists) (c : CodeCertificate) (answer : Answer) → length (string_bytes answer.text) ≤ most_bytes → IsAnswer answer (proposed lists (certificate_view c))
    → IsAnswer answer (found_end lists (found.Certificate c))
short_gives lists c answer short is =
    let cert = certificate_view c in
    rw (le-leb (length (certificate_text lists cert)) most_bytes (subst (λ (text : List ℕ). length text ≤ most_bytes) (text_of lists cert answer is) short)) is

pub long_gives : (lists : Lists) (c : CodeCertificate) (answer : Answer) (r : Result Answer ToolFault) → most_bytes < length (string_bytes answer.text)
    → IsAnswer answer (proposed lists (certificate_view c)) → Gives r unproposed → Gives r (found_end lists (found.Certificate c))
long_gives lists c answer r long is gives =
    let cert = certificate_view c in
    rw (lt-leb (length (certificate_text lists cert)) most_bytes (subst (λ (text : List ℕ). most_bytes < length text) (text_of lists cert answer is) long)) gives

-- running out of memory says nothing of the end
pub memory_ends : (f : ToolFault) (end : Outcome) → f ≡ fault.NoMemory → Ends f end
memory_ends f end is = subst (λ (x : ToolFault). Ends x end) (sym is) tt

-- a certificate that fits and that no condition refuses is accepted
pub accepted_of : (lists : Lists) (what : Found) → IfCertificate what (λ c. fits (network_of lists) (certificate_view c) ≡ true)
    → IfCertificate what (λ c. first_no lists (certificate_view c) ≡ None) → IsAccepted lists what
accepted_of lists (found.Certificate c) fitting passing = (fitting, passing)
accepted_of lists (found.Missing why) fitting passing = tt

-- what was found is one of the ends that may be
pub found_may : (lists : Lists) (what : Found) → IsAccepted lists what → MayFind (Ok lists) (found_end lists what)
found_may lists (found.Missing why) is = inl refl
found_may lists (found.Certificate c) is = by (nat_le (length (certificate_text lists (certificate_view c))) most_bytes) refl
  where
    by : (few : Bool) → nat_le (length (certificate_text lists (certificate_view c))) most_bytes ≡ few
        → MayFind (Ok lists) (if few then proposed lists (certificate_view c) else unproposed)
    by true short = inr (certificate_view c, (is.0, is.1, leb-true (length (certificate_text lists (certificate_view c))) most_bytes short), refl)
    by false long = inl refl

-- the note is the text, where there was memory for both
pub note_given : {E : Type 0} (d : Lists) (missing : Missing) (text : Result (String Global) E) (r : Result Answer ToolFault) → IfOk text (λ t. IsMissingText d missing (string_bytes t))
    → IfOk r (λ a. IfOk text (λ t. a.note ≡ Some t)) → OnOk r (IsOk text) → IfOk r (SaysWhy d (found.Missing missing))
note_given d missing (Ok t) (Ok a) is note there = (string_bytes t, ap (option_map string_bytes) note, is)
note_given d missing (Err e) (Ok a) is note there = absurd (let no : false ≡ true = there in cc)
note_given d missing text (Err e) is note there = tt
