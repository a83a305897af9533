use Rattle.std.proofs.Common.{◌≡◌, ◌≤◌, ◌+◌, ◌*◌, ◌^◌, drop, option_map}
use Rattle.dds_match.specs.Writes.{most_brought}
use Rattle.dds_match.proofs.paces.most_brought.Given as goal

-- what the writes so far bring, and the rest
abbrev pub invariant-loop-write : goal.invariant-loop-write
invariant-loop-write l = record {
  rest : option_map (λ n. l.samples + n) (most_brought (drop l.write-index l.writes) l.key l.span) ≡ most_brought l.writes l.key l.span;
  small : l.samples ≤ l.write-index * 2 ^ 81;
}
