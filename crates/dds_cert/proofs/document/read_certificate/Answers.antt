use Rattle.std.proofs.Common.{◌≡◌, true, sym, subst}
use Rattle.dds_fields.specs.Gives.{FailsAs}
use Rattle.dds_fields.proofs.Each.{fails_as}
use Rattle.dds_fields.proofs.FaultLaws.{fails_common}
use Rattle.dds_lists.specs.WellFormed.{IsWellFormed}
use Rattle.dds_match.specs.Plan.{network_of}
use Rattle.dds_cert.specs.Faults.{cert_flaw}
use Rattle.dds_weights.specs.Fits.{fits}
use Rattle.dds_cert.specs.Document.{read}
use Rattle.dds_weights.specs.Views.{certificate_view}
use Rattle.dds_cert.proofs.KindLaws.{read_common}
use Rattle.dds_cert.proofs.ReadLaws.{read_fits}
use Rattle.dds_cert.proofs.document.read_certificate.Goals as goal

pub cert_fault-requires : goal.cert_fault-requires
cert_fault-requires c = fails_common c.in-Err.fault (read c.lists-lists.result.now c.args.bytes.now) c.in-Err.ensures (read_common c.lists-lists.result.now c.args.bytes.now)

pub returns-in-Ok-clause-fits : goal.returns-in-Ok-clause-fits
returns-in-Ok-clause-fits c =
    subst (λ p. fits (network_of p) (certificate_view c.in-Ok.certificate) ≡ true) c.lists-lists.ensures.value
    (read_fits c.lists-lists.result.now c.args.bytes.now (certificate_view c.in-Ok.certificate) (subst IsWellFormed (sym c.lists-lists.ensures.value) c.lists-lists.ensures.well_formed) c.assert_well_formed.ensures.names_once c.in-Ok.ensures)

pub returns-in-Err-clause-answers : goal.returns-in-Err-clause-answers
returns-in-Err-clause-answers c =
    subst (λ p. FailsAs (cert_flaw c.cert_fault.result) (read p c.args.bytes.now)) c.lists-lists.ensures.value
    (subst (λ f. FailsAs f (read c.lists-lists.result.now c.args.bytes.now)) (sym c.cert_fault.ensures) (fails_as c.in-Err.fault (read c.lists-lists.result.now c.args.bytes.now) c.in-Err.ensures))
