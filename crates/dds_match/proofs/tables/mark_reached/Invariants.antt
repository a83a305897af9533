use Rattle.std.proofs.Common.{◌&&◌}
use Rattle.std.specs.Prelude.{◌==◌}
use Rattle.std.specs.List.{list_any}
use Rattle.dds_base.specs.Sums.{any_below}
use Rattle.dds_match.specs.Marks.{AddsMarks}
use Rattle.dds_match.specs.Plan.{hears, matched, network_of}
use Rattle.dds_match.proofs.tables.mark_reached.Given as goal

abbrev pub invariant-loop-u : goal.invariant-loop-u
invariant-loop-u l = AddsMarks l.initial.reached l.reached (λ r k. hears l.lists r k && any_below l.u (λ u. list_any (λ e. (e.key == k) && matched l.lists e.endpoint r) ((network_of l.lists).rule u).writes))
