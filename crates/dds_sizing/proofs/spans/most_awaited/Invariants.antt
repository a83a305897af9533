use Rattle.std.proofs.Common.{◌≡◌, ◌≤◌, ◌+◌, ◌*◌, ◌^◌, drop, option_map, Some}
use Rattle.dds_match.specs.Paces.{in_flight}
use Rattle.dds_match.specs.Sums.{sum_of}
use Rattle.dds_sizing.specs.Spans.{most_awaited}
use Rattle.dds_sizing.proofs.spans.most_awaited.Given as goal

-- the sum so far and that of the rest
abbrev pub invariant-loop-writer : goal.invariant-loop-writer
invariant-loop-writer l = record {
  rest : option_map (λ n. l.sum + n) (sum_of (λ w. in_flight l.plan w l.reader l.key (Some l.span)) (drop l.writer-index l.writer-items)) ≡ most_awaited l.plan l.reader l.key l.span;
  small : l.sum ≤ l.writer-index * 2 ^ 32;
}
