use Rattle.std.proofs.Common.{◌≡◌, flat_map, string_bytes, take}
use Rattle.dds_findings.specs.Blocks.{detail_line}
use Rattle.dds_findings.proofs.block.details_text.Given as goal

-- the lines of the terms so far
abbrev pub invariant-loop-detail : goal.invariant-loop-detail
invariant-loop-detail l = string_bytes l.text ≡ flat_map (λ detail. detail_line l.margin (string_bytes detail)) (take l.detail-index l.details)
