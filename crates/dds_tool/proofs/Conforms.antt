-- What a judging of a trace comes to.
use Rattle.std.proofs.Common.{◌≡◌, ℕ, false, List, Ok, Err, refl, inl, inr}
use Rattle.dds_lists.specs.Lists.{Lists}
use Rattle.dds_conform.specs.Traces.{IsFaultOf}
use Rattle.dds_conform.specs.declared.conformance.Conformance.{Conformance}
use Rattle.dds_conform.specs.declared.conformance.Conformance.TheVariants.{Kept, NoPermit, TooLate, TooSoon, Unknown}
use Rattle.dds_conform.specs.declared.conformance.Shortage.{Shortage}
use Rattle.dds_conform.specs.declared.fault.TraceFault.{TraceFault}
use Rattle.dds_conform.specs.declared.fault.TraceFault.TheVariants as untold
use Rattle.dds_answers.specs.declared.fault.ToolFault.{ToolFault}
use Rattle.dds_answers.specs.Outcome.{bad_trace}
use Rattle.dds_findings.specs.Blocks.{FileNames}
use Rattle.dds_options.specs.declared.style.Style.{Style}
use Rattle.dds_json.proofs.Documents.{no_fractions}
use Rattle.serde_json.specs.Written.{has_float}
use Rattle.dds_tool.specs.Conforming.{IsTraceFault, MayConform, conformance_document, shortage_document}
use Rattle.dds_tool.specs.Outcome.{ComesTo}

-- the fault of a trace that could not be read is one that its judging ends with
pub untold_comes : (lists : Lists) (bytes : List ℕ) (f : TraceFault) (t : ToolFault) → IsFaultOf lists bytes f → IsTraceFault f t → (names : FileNames) → (style : Style)
    → ComesTo names style ⊥ (MayConform style (Ok lists) bytes) (Err t)
untold_comes lists bytes (untold.At kind line) t faulty is names style = rw is (inr (inr (bad_trace kind line, inr (kind, line, faulty, refl), refl)))
untold_comes lists bytes untold.NoMemory t faulty is names style = rw is (inr (inl tt))

-- ── documents without fractions
shortage_plain : (d : Lists) (s : Shortage) → has_float (shortage_document d s) ≡ false
shortage_plain d s = refl

pub conformance_plain : (d : Lists) (conformance : Conformance) → has_float (conformance_document d conformance) ≡ false
conformance_plain d Kept = refl
conformance_plain d (NoPermit x) = let none = no_fractions (shortage_document d) (shortage_plain d) x.short.items in rw none refl
conformance_plain d (TooSoon x) = refl
conformance_plain d (TooLate x) = refl
conformance_plain d Unknown = refl
