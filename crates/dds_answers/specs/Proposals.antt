-- How a search for a certificate may end.
use Rattle.std.specs.Prelude.{◌≡◌, ◌⊎◌, Option, Some, None, Ok, Err, true}
use Rattle.dds_fields.specs.Reading.{Read}
use Rattle.dds_lists.specs.Lists.{Lists}
use Rattle.dds_deploy.specs.Document as deployment
use Rattle.dds_match.specs.Plan.{network_of}
use Rattle.dds_weights.specs.Fits.{fits}
use Rattle.dds_weights.specs.Lists.{Certificate}
use Rattle.dds_check.specs.Accepts.{first_no}
use Rattle.dds_propose.specs.Proposal.{IsProposal}
use Rattle.dds_answers.specs.Outcome.{MayOfFile, Outcome, bad_deployment, proposed, unproposed}

-- the certificate fits the lists, no condition refuses it, and it is the one that the rounds give
abbrev pub IsProposed : Lists → Certificate → Type 0
IsProposed lists cert = (fits (network_of lists) cert ≡ true) × (first_no lists cert ≡ None) × IsProposal (network_of lists) cert

-- of a deployment that can be read a certificate is proposed that is one of those that are looked for, or none; a flaw of the deployment is reported
abbrev pub MaySeek : (Lists → Certificate → Type 0) → Read Lists → Outcome → Type 0
MaySeek IsSought (Ok lists) end = (end ≡ unproposed) ⊎ ((cert : Certificate) × IsSought lists cert × (end ≡ proposed lists cert))
MaySeek IsSought (Err flaw) end = end ≡ bad_deployment flaw

-- how a search ends that found this certificate, or none
abbrev pub proposal_end : Lists → Option Certificate → Outcome
proposal_end lists (Some cert) = proposed lists cert
proposal_end lists None = unproposed

-- the certificate of the rounds, which is accepted, or none
abbrev pub MayPropose : Read Lists → Outcome → Type 0
MayPropose read end = MaySeek IsProposed read end
