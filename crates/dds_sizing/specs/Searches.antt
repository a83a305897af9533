-- How a thorough search for a certificate may end.
use Rattle.std.specs.Prelude.{◌≡◌, ◌≤◌, ℕ, List, None, Some, length, nat_le, option_map, string_bytes, true, if◌then◌else◌}
use Rattle.dds_fields.specs.Reading.{Read}
use Rattle.dds_lists.specs.Lists.{Lists}
use Rattle.dds_match.specs.Plan.{network_of}
use Rattle.dds_weights.specs.Fits.{fits}
use Rattle.dds_weights.specs.Lists.{Certificate}
use Rattle.dds_weights.specs.Text.{certificate_text}
use Rattle.dds_check.specs.Accepts.{first_no}
use Rattle.dds_weights.specs.Views.{certificate_view}
use Rattle.dds_search.specs.declared.answer.Found.{Found}
use Rattle.dds_search.specs.declared.answer.Found.TheVariants as found
use Rattle.dds_answers.specs.Outcome.{Outcome, proposed, unproposed}
use Rattle.dds_answers.specs.Proposals.{MaySeek}
use Rattle.dds_answers.specs.Reading.{most_bytes}
use Rattle.dds_answers.specs.declared.answer.Answer.{Answer}
use Rattle.dds_sizing.specs.Missing.{IsMissingText}

-- the certificate fits the lists, no condition refuses it, and its text is no longer than a file may be
abbrev pub IsFound : Lists → Certificate → Type 0
IsFound lists cert = (fits (network_of lists) cert ≡ true) × (first_no lists cert ≡ None) × (length (certificate_text lists cert) ≤ most_bytes)

-- a certificate that is accepted, or none
abbrev pub MayFind : Read Lists → Outcome → Type 0
MayFind read end = MaySeek IsFound read end

-- a certificate that was found fits the lists, and no condition refuses it
abbrev pub IsAccepted : Lists → Found → Type 0
IsAccepted lists (found.Certificate c) = (fits (network_of lists) (certificate_view c) ≡ true) × (first_no lists (certificate_view c) ≡ None)
IsAccepted lists (found.Missing why) = Unit {0}

-- where no certificate was found, a note says why
abbrev pub SaysWhy : Lists → Found → Answer → Type 0
SaysWhy lists (found.Missing why) answer = (text : List ℕ) × (option_map string_bytes answer.note ≡ Some text) × IsMissingText lists why text
SaysWhy lists (found.Certificate c) answer = Unit {0}

-- how the command ends that found it: its text is printed where it's no longer than a file may be, else that there is none
abbrev pub found_end : Lists → Found → Outcome
found_end lists (found.Certificate c) = if nat_le (length (certificate_text lists (certificate_view c))) most_bytes then proposed lists (certificate_view c) else unproposed
found_end lists (found.Missing why) = unproposed
