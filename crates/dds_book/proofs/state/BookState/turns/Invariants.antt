use Rattle.std.proofs.Common.{◌+◌, ◌-◌, ◌*◌}
use Rattle.dds_book.specs.Round.{course_from}
use Rattle.dds_book.proofs.RoundLaws.{IsUnderway}
use Rattle.dds_book.proofs.state.BookState.turns.Given as goal

abbrev pub invariant-loop-entered : goal.invariant-loop-entered
invariant-loop-entered g l = IsUnderway g.N.Name.plan l.fates l.most (course_from l.initial.self l.initial.seat l.initial.pace) l.self l.seat l.pace l.entered l.quiet

-- each turn enters an event, or nothing is due in it
abbrev pub decreases-loop-entered : goal.decreases-loop-entered
decreases-loop-entered g l = (l.most - l.entered) * 8 + (8 - l.quiet)
