use Rattle.dds_base.specs.Sums.{any_below}
use Rattle.dds_match.specs.Marks.{AddsMarks}
use Rattle.dds_match.specs.Network.{is_named}
use Rattle.dds_match.specs.Plan.{network_of}
use Rattle.dds_match.proofs.tables.mark_written.Given as goal

abbrev pub invariant-loop-u : goal.invariant-loop-u
invariant-loop-u l = AddsMarks l.initial.written l.written (λ w k. any_below l.u (λ u. is_named ((network_of l.lists).rule u).writes w k))
