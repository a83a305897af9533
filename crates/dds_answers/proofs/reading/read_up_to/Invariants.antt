use Rattle.std.proofs.Common.{◌+◌, ◌-◌, ◌≡◌, ◌≤◌, ◌⊎◌, length}
use Rattle.std.specs.Io.KnownBytes.{Consumes}
use Rattle.dds_answers.proofs.reading.read_up_to.Given as goal

-- what was read stands in `bytes`, no read failed, and the interrupted ones are counted: not more than may be borne or not more bytes than there may be
abbrev pub invariant-loop-interrupted : goal.invariant-loop-interrupted
invariant-loop-interrupted g l =
    Consumes (g.R.Read.remaining l.initial.reader.reader) (g.R.Read.remaining l.reader.reader) l.bytes.items
    × (l.reader.failed ≡ l.initial.reader.failed)
    × (l.reader.interrupted ≡ l.initial.reader.interrupted + l.interrupted)
    × (l.interrupted ≤ 1001)
    × ((l.interrupted ≤ 1000) ⊎ (length l.bytes.items ≤ l.most))

abbrev pub decreases-loop-interrupted : goal.decreases-loop-interrupted
decreases-loop-interrupted g l = (1001 - l.interrupted) + (l.most + 1 - length l.bytes.items)
