-- How a search for a certificate ends.
use Rattle.std.proofs.Common.{◌≡◌, true, IfSome, Option, Some, None, Result, Ok, Err, option_map, refl, inl, inr, string_bytes}
use Rattle.std.specs.Result.{IsErrAnd}
use Rattle.dds_fields.specs.Reading.{Read}
use Rattle.dds_lists.specs.Lists.{Lists}
use Rattle.dds_match.specs.Plan.{network_of}
use Rattle.dds_weights.specs.Fits.{fits}
use Rattle.dds_weights.specs.Lists.{Certificate}
use Rattle.dds_weights.specs.Views.{certificate_view}
use Rattle.dds_weights.specs.declared.certificate.Certificate.{Certificate as CodeCertificate}
use Rattle.dds_check.specs.Accepts.{first_no}
use Rattle.dds_propose.specs.Proposal.{IsProposal}
use Rattle.dds_answers.specs.declared.answer.Answer.{Answer}
use Rattle.dds_answers.specs.declared.fault.ToolFault.{ToolFault}
use Rattle.dds_answers.specs.declared.fault.ToolFault.TheVariants as fault
use Rattle.dds_answers.specs.Answers.{Gives}
use Rattle.dds_answers.specs.Outcome.{Outcome, bad_deployment, unproposed}
use Rattle.dds_answers.specs.Proposals.{MayPropose, MaySeek, proposal_end}
use Rattle.dds_answers.specs.Report.{IsUnread}
use Rattle.dds_answers.proofs.Unread.{by_fault}

-- a search for a certificate always has some end
some_end : (IsSought : Lists → Certificate → Type 0) (read : Read Lists) → (end : Outcome) × MaySeek IsSought read end
some_end IsSought (Ok lists) = (unproposed, inl refl)
some_end IsSought (Err flaw) = (bad_deployment flaw, refl)

-- what the rounds give is how they end
pub may_propose : (lists : Lists) (found : Option CodeCertificate) → IfSome found (λ c. fits (network_of lists) (certificate_view c) ≡ true)
    → IfSome found (λ c. first_no lists (certificate_view c) ≡ None) → IfSome found (λ c. IsProposal (network_of lists) (certificate_view c))
    → MayPropose (Ok lists) (proposal_end lists (option_map certificate_view found))
may_propose lists (Some c) fit accepted is = inr (certificate_view c, (fit, accepted, is), refl)
may_propose lists None fit accepted is = inl refl

-- want of memory says nothing of the end
pub memory_ends : (IsSought : Lists → Certificate → Type 0) (read : Read Lists) → (end : Outcome) × MaySeek IsSought read end × Gives (Err fault.NoMemory) end
memory_ends IsSought read = let e = some_end IsSought read in (e.0, e.1, tt)

-- what is found for a plan is found for the deployment that was read
pub sought_of : (IsSought : Lists → Certificate → Type 0) (read : Read Lists) (plan : Lists) (r : Result Answer ToolFault) → read ≡ Ok plan
    → ((end : Outcome) × MaySeek IsSought (Ok plan) end × Gives r end) → (end : Outcome) × MaySeek IsSought read end × Gives r end
sought_of IsSought read plan r is found = rw is found

-- the fault of a deployment that could not be read is one that the search ends with
pub unread_seeks : (IsSought : Lists → Certificate → Type 0) (read : Read Lists) (r : Result Answer ToolFault) (f : ToolFault) → IsErrAnd r (λ g. g ≡ f) → IsUnread read f
    → (end : Outcome) × MaySeek IsSought read end × Gives r end
unread_seeks IsSought read (Ok answer) f same is = absurd same
unread_seeks IsSought read (Err g) f same is =
    rw same (by_fault read (λ e. (end : Outcome) × MaySeek IsSought read end × Gives (Err e) end)
    (λ flaw syntax bad. rw bad (bad_deployment (flaw.kind, string_bytes flaw.path), refl, refl)) (memory_ends IsSought read) f is)
