-- Findings of a certificate that has a fault.
use Rattle.std.proofs.Common.{◌≡◌, sym, subst, List, Result, Err, IfOk, string_bytes}
use Rattle.dds_fields.specs.Gives.{FailsAs}
use Rattle.dds_fields.specs.Reading.{Flaw, Read}
use Rattle.dds_lists.specs.Lists.{Lists}
use Rattle.dds_weights.specs.Lists.{Certificate}
use Rattle.dds_cert.specs.Faults.{cert_flaw, kind_of}
use Rattle.dds_cert.specs.declared.fault.CertFault.{CertFault}
use Rattle.dds_cert.specs.declared.fault.CertFault.TheVariants.{At}
use Rattle.dds_cert.specs.declared.fault.CertFlaw.{CertFlaw}
use Rattle.dds_findings.specs.Findings.{IsJudged, matters}
use Rattle.dds_findings.specs.declared.finding.Finding.{Finding}

-- what is found whatever the fault is, is found where the bytes have this one
pub flawed_judged : {V E : Type 0} (items : V → List Finding) (d : Lists) (read : Read Certificate) (fault : CertFault) (first : CertFlaw) (r : Result V E) → fault ≡ At first
    → FailsAs (cert_flaw fault) read
    → ((flaw : Flaw) → IfOk r (λ v. IsJudged d (Err flaw) (matters (items v)))) → IfOk r (λ v. IsJudged d read (matters (items v)))
flawed_judged items d read fault first r is fails judged =
    let why : read ≡ Err (kind_of first.kind, string_bytes first.path) = subst (λ (f : CertFault). FailsAs (cert_flaw f) read) is fails in
    subst (λ (x : Read Certificate). IfOk r (λ v. IsJudged d x (matters (items v)))) (sym why) (judged (kind_of first.kind, string_bytes first.path))
