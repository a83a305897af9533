-- How a command on files ends.
use Rattle.std.specs.Prelude.{ℕ, ◌≡◌, Bool, true, false, List, length, nat_le, ◌&&◌, Option, Some, None, Ok, Err, if◌then◌else◌}
use Rattle.dds_options.specs.declared.format.Format.{Format}
use Rattle.dds_options.specs.declared.detail.Detail.{Detail}
use Rattle.dds_options.specs.declared.detail.Detail.TheVariants.{Plain, Explained}
use Rattle.dds_fields.specs.Reading.{Read, Flaw}
use Rattle.dds_lists.specs.Lists.{Lists}
use Rattle.dds_deploy.specs.Document as deployment
use Rattle.dds_weights.specs.Lists.{Certificate}
use Rattle.dds_cert.specs.Document as certificate
use Rattle.dds_check.specs.Accepts.{first_no}
use Rattle.dds_check.specs.declared.verdict.No.{No}
use Rattle.dds_events.specs.declared.fault.EventsFaultKind.{EventsFaultKind}
use Rattle.dds_conform.specs.declared.fault.TraceFaultKind.{TraceFaultKind}
use Rattle.dds_answers.specs.Reading.{most_bytes}

-- the certificate is accepted, or a condition fails, and either may be printed with its reason, or the endpoints are compared, or a certificate is proposed or
-- none is found, or a deployment is migrated to this text, or it is shown in a format, or it is drawn, with its certificate if there is one, or these
-- lines are said, with a yes or a no, or a file has a flaw, or a file has too many bytes
pub data Outcome : Type 0 where
  accepted : Lists → Certificate → Outcome
  refused : No → Lists → Certificate → Outcome
  accepted_because : Lists → Certificate → Outcome
  refused_because : No → Lists → Certificate → Outcome
  compared : Lists → Outcome
  proposed : Lists → Certificate → Outcome
  unproposed : Outcome
  migrated : List ℕ → Outcome
  shown : Format → Lists → Outcome
  drawn : Lists → Option Certificate → Outcome
  said : (lines : List ℕ) → (is_yes : Bool) → Outcome
  bad_deployment : Flaw → Outcome
  bad_certificate : Flaw → Outcome
  bad_events : EventsFaultKind → (line : ℕ) → Outcome
  bad_trace : TraceFaultKind → (line : ℕ) → Outcome
  too_large : Outcome

-- the first condition that fails refuses the certificate
abbrev pub verdict : Option No → Lists → Certificate → Outcome
verdict None lists cert = accepted lists cert
verdict (Some first) lists cert = refused first lists cert

-- the certificate is judged, if it is one for these lists
abbrev pub judged : Lists → Read Certificate → Outcome
judged lists (Ok cert) = verdict (first_no lists cert) lists cert
judged lists (Err flaw) = bad_certificate flaw

-- the certificate is read for the lists, if the deployment has some
abbrev pub planned : Read Lists → List ℕ → Outcome
planned (Ok lists) bytes = judged lists (certificate.read lists bytes)
planned (Err flaw) bytes = bad_deployment flaw

-- how a check of the bytes of a deployment and of a certificate ends: the deployment is read, then the certificate for its lists, then the
-- conditions are asked in order
unfoldable pub outcome : List ℕ → List ℕ → Outcome
outcome d c = planned (deployment.read d) c

-- the end of a check with its reason, which a bad file has none of
abbrev pub because : Outcome → Outcome
because (accepted lists cert) = accepted_because lists cert
because (refused first lists cert) = refused_because first lists cert
because end = end

-- the end of a check, plainly or with its reason
abbrev pub told : Detail → Outcome → Outcome
told Plain end = end
told Explained end = because end

-- this end of a command on two files with these bytes, if neither is too large: both are read whole before either is parsed
abbrev pub of_files : List ℕ → List ℕ → Outcome → Outcome
of_files d c end = if nat_le (length d) most_bytes && nat_le (length c) most_bytes then end else too_large

-- of bytes that are few enough an end that may be, and of too many that one
abbrev pub MayIf : (is_few : Bool) → (Outcome → Type 0) → Outcome → Type 0
MayIf true May end = May end
MayIf false May end = end ≡ too_large

-- an end that may be of a command on a file with these bytes, if it isn't too large: it is read whole before it is parsed
abbrev pub MayOfFile : List ℕ → (Outcome → Type 0) → Outcome → Type 0
MayOfFile d May end = MayIf (nat_le (length d) most_bytes) May end

-- an end that may be of a command on two files with these bytes, if neither is too large: the second may have so many bytes, and both are read whole before
-- either is parsed
abbrev pub MayOfFiles : (most : ℕ) → List ℕ → List ℕ → (Outcome → Type 0) → Outcome → Type 0
MayOfFiles most d c May end = MayIf (nat_le (length d) most_bytes && nat_le (length c) most) May end

-- how a check of two files with these bytes ends
unfoldable pub file_outcome : List ℕ → List ℕ → Outcome
file_outcome d c = of_files d c (outcome d c)

-- how it is printed
unfoldable pub check_file_outcome : Detail → List ℕ → List ℕ → Outcome
check_file_outcome detail d c = of_files d c (told detail (outcome d c))

-- the endpoints are compared, if the deployment has some
abbrev pub comparison : Read Lists → Outcome
comparison (Ok lists) = compared lists
comparison (Err flaw) = bad_deployment flaw

-- how a comparison of the endpoints of a deployment with these bytes ends
unfoldable pub match_outcome : List ℕ → Outcome
match_outcome d = comparison (deployment.read d)

-- a deployment is shown, if the bytes are one
abbrev pub showing : Format → Read Lists → Outcome
showing format (Ok lists) = shown format lists
showing format (Err flaw) = bad_deployment flaw

-- a deployment is drawn with its certificate, if it is one for these lists
abbrev pub drawing_with : Lists → Read Certificate → Outcome
drawing_with lists (Ok cert) = drawn lists (Some cert)
drawing_with lists (Err flaw) = bad_certificate flaw

-- a deployment is drawn, if the bytes are one, with the certificate of these bytes, if there are some
abbrev pub drawing : Read Lists → Option (List ℕ) → Outcome
drawing (Ok lists) None = drawn lists None
drawing (Ok lists) (Some bytes) = drawing_with lists (certificate.read lists bytes)
drawing (Err flaw) c = bad_deployment flaw
