use Rattle.std.proofs.Common.{◌∙◌, None, Some, refl, sym, arith}
use Rattle.dds_conform.proofs.Passing.{has_room, holds_at_none, known_at, passed_ended, passed_other, passed_waiting, past}
use Rattle.dds_conform.proofs.windows.Window.pass.Goals as goal

pub go_past-requires-clause-known : goal.go_past-requires-clause-known
go_past-requires-clause-known c =
    let next = c.requires.next in
    let lt = c.requires.at in
    known_at c.args.plan.now c.args.entries.now c.args.times.now c.args.self.now.passed c.index-entries-place.result c.requires.trace (omega (arith, next, lt)) c.index-entries-place.is

pub go_past-requires-clause-room : goal.go_past-requires-clause-room
go_past-requires-clause-room c = has_room c.args.plan.now c.args.entries.now c.args.times.now c.args.at c.args.self.now c.requires.window c.requires.next (omega arith)

pub returns-in_err-key-clause-none : goal.returns-in_err-key-clause-none
returns-in_err-key-clause-none c = holds_at_none c.from_residual.result _ (passed_other c.args.plan.now c.args.entries.now c.args.times.now c.args.at c.args.self.now c.requires.window c.go_past.new.self None c.index-entries-place.result c.requires.trace c.requires.at c.index-entries-place.is c.requires.next c.requires.long c.in_err-key.ensures refl)

pub returns-in_err-key-clause-passed : goal.returns-in_err-key-clause-passed
returns-in_err-key-clause-passed c = (past c.args.plan.now c.index-entries-place.result c.args.self.now c.go_past.new.self None c.in_err-key.ensures).0

pub returns-in_err-key-clause-span : goal.returns-in_err-key-clause-span
returns-in_err-key-clause-span c = (past c.args.plan.now c.index-entries-place.result c.args.self.now c.go_past.new.self None c.in_err-key.ensures).1

pub returns-then-is_waiting-clause-some : goal.returns-then-is_waiting-clause-some
returns-then-is_waiting-clause-some c = passed_waiting c.args.plan.now c.args.entries.now c.args.times.now c.args.at c.args.self.now c.requires.window c.go_past.new.self c.in_ok-key.key c.index-entries-place.result c.requires.trace c.requires.at c.index-entries-place.is c.requires.next c.requires.long c.in_ok-key.ensures (sym c.is_waiting.ensures ∙ c.if-is_waiting.true)

pub returns-then-is_waiting-clause-passed : goal.returns-then-is_waiting-clause-passed
returns-then-is_waiting-clause-passed c = (past c.args.plan.now c.index-entries-place.result c.args.self.now c.go_past.new.self (Some c.in_ok-key.key) c.in_ok-key.ensures).0

pub returns-then-is_waiting-clause-span : goal.returns-then-is_waiting-clause-span
returns-then-is_waiting-clause-span c = (past c.args.plan.now c.index-entries-place.result c.args.self.now c.go_past.new.self (Some c.in_ok-key.key) c.in_ok-key.ensures).1

pub returns-else-is_waiting-clause-none : goal.returns-else-is_waiting-clause-none
returns-else-is_waiting-clause-none c = passed_ended c.args.plan.now c.args.entries.now c.args.times.now c.args.at c.args.self.now c.requires.window c.go_past.new.self c.in_ok-key.key c.index-entries-place.result c.requires.trace c.requires.at c.index-entries-place.is c.requires.next c.requires.long c.in_ok-key.ensures (sym c.is_waiting.ensures ∙ c.if-is_waiting.false)

pub returns-else-is_waiting-clause-passed : goal.returns-else-is_waiting-clause-passed
returns-else-is_waiting-clause-passed c = (past c.args.plan.now c.index-entries-place.result c.args.self.now c.go_past.new.self (Some c.in_ok-key.key) c.in_ok-key.ensures).0

pub returns-else-is_waiting-clause-span : goal.returns-else-is_waiting-clause-span
returns-else-is_waiting-clause-span c = (past c.args.plan.now c.index-entries-place.result c.args.self.now c.go_past.new.self (Some c.in_ok-key.key) c.in_ok-key.ensures).1
