-- How a check ends, and what is told of it.
use Rattle.std.proofs.Common.{◌≡◌, Err, refl, string_bytes}
use Rattle.dds_fields.specs.Reading.{Flaw, Read}
use Rattle.dds_fields.specs.Gives.{FailsAs}
use Rattle.dds_lists.specs.Lists.{Lists}
use Rattle.dds_weights.specs.Lists.{Certificate}
use Rattle.dds_cert.specs.Faults.{cert_flaw, kind_of}
use Rattle.dds_cert.specs.declared.fault.CertFault.{CertFault}
use Rattle.dds_cert.specs.declared.fault.CertFault.TheVariants.{At, NoMemory}
use Rattle.dds_answers.specs.declared.fault.ToolFault.{ToolFault}
use Rattle.dds_answers.specs.declared.fault.ToolFault.TheVariants as fault
use Rattle.dds_options.specs.declared.detail.Detail.{Detail}
use Rattle.dds_options.specs.declared.detail.Detail.TheVariants.{Plain, Explained}
use Rattle.dds_answers.specs.Outcome.{Outcome, bad_certificate, bad_deployment, drawing_with, judged, told}
use Rattle.dds_answers.specs.Report.{Ends, IsCertificateFault, Tells}

-- the fault of a certificate that could not be read is that of the check
pub certificate_told : (lists : Lists) (read : Read Certificate) (f : CertFault) (t : ToolFault)
    → FailsAs (cert_flaw f) read → IsCertificateFault f t → Tells (Err t) (judged lists read)
certificate_told lists read (At flaw) t fails is = rw (is, fails) refl
certificate_told lists read NoMemory t fails is = rw is tt

-- the fault of a certificate that could not be read is one that the drawing of its deployment can end with
pub undrawn_with_ends : (lists : Lists) (read : Read Certificate) (f : CertFault) (t : ToolFault) → FailsAs (cert_flaw f) read → IsCertificateFault f t
    → Ends t (drawing_with lists read)
undrawn_with_ends lists read (At flaw) t fails is = rw (is, fails) refl
undrawn_with_ends lists read NoMemory t fails is = rw is tt

-- a bad file has no reason
bad_deployment_told : (detail : Detail) (flaw : Flaw) → told detail (bad_deployment flaw) ≡ bad_deployment flaw
bad_deployment_told Plain flaw = refl
bad_deployment_told Explained flaw = refl

bad_certificate_told : (detail : Detail) (flaw : Flaw) → told detail (bad_certificate flaw) ≡ bad_certificate flaw
bad_certificate_told Plain flaw = refl
bad_certificate_told Explained flaw = refl

-- what a report tells of the end of a check is given, with its reason or without
pub reported_ends : (detail : Detail) (e : ToolFault) (end : Outcome) → Tells (Err e) end → Ends e (told detail end)
reported_ends detail (fault.Deployment flaw syntax) end tells = rw tells (bad_deployment_told detail (flaw.kind, string_bytes flaw.path))
reported_ends detail (fault.Certificate flaw syntax) end tells = rw tells (bad_certificate_told detail (kind_of flaw.kind, string_bytes flaw.path))
reported_ends detail fault.NoMemory end tells = tt
reported_ends detail (fault.Usage text) end tells = absurd tells
reported_ends detail (fault.Events kind line) end tells = absurd tells
reported_ends detail (fault.Trace kind line) end tells = absurd tells
reported_ends detail fault.TooLarge end tells = absurd tells
reported_ends detail fault.Read end tells = absurd tells
reported_ends detail fault.Write end tells = absurd tells
reported_ends detail fault.Run end tells = absurd tells
