use Rattle.std.proofs.Common.{◌≡◌, map, string_bytes, take}
use Rattle.serde_json.specs.Data.{string}
use Rattle.serde_json.specs.View.{view}
use Rattle.dds_findings.proofs.document.details_array.Given as goal

-- the terms so far
abbrev pub invariant-loop-detail : goal.invariant-loop-detail
invariant-loop-detail l = map view l.texts.items ≡ map (λ detail. string (string_bytes detail)) (take l.detail-index l.details)
