use Rattle.std.proofs.Common.{◌≡◌, string_bytes, take}
use Rattle.dds_findings.specs.Documents.{term_lines}
use Rattle.dds_findings.proofs.sarif.term_lines.Given as goal

-- the lines of the terms so far
abbrev pub invariant-loop-detail : goal.invariant-loop-detail
invariant-loop-detail l = string_bytes l.text ≡ term_lines (take l.detail-index l.details)
