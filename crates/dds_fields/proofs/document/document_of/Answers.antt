use Rattle.std.proofs.Common.{◌≡◌, [], true≢false, sym, ◌∙◌, refl}
use Rattle.dds_fields.specs.declared.fault.FaultKind.TheVariants.{NotToml}
use Rattle.dds_fields.proofs.Documents.{document-some, document-none}
use Rattle.dds_fields.proofs.Each.{fails_at}
use Rattle.dds_fields.proofs.document.document_of.Goals as goal

pub returns-in-Ok : goal.returns-in-Ok
returns-in-Ok c = rw (document-some c.args.bytes.now _ c.in-Ok.ensures.ok.0 c.in-Ok.ensures.ok.1) refl

pub returns-else-is_memory : goal.returns-else-is_memory
returns-else-is_memory c = fails_at c.refuse.result (NotToml, []) _ (rw (document-none c.args.bytes.now (c.in-Err.ensures.refused (λ m. true≢false (sym (c.is_memory.ensures.1 m) ∙ c.if-is_memory.false)))) refl) c.refuse.ensures
