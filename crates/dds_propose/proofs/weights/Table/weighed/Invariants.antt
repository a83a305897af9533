use Rattle.std.proofs.Common.{◌≡◌, ◌+◌, ◌≤◌, ◌*◌, ◌^◌, drop}
use Rattle.dds_check.specs.Tables.{weighed_by}
use Rattle.dds_propose.specs.Tables.{cell}
use Rattle.dds_propose.proofs.weights.Table.weighed.Given as goal

abbrev pub invariant-loop-portion : goal.invariant-loop-portion
invariant-loop-portion g l =
    (l.total + weighed_by g.E.Endpoint.number_of (drop l.portion-index l.portions) (cell l.self) ≡ weighed_by g.E.Endpoint.number_of l.portions (cell l.self))
    × (l.total ≤ l.portion-index * 2 ^ 48)
