use Rattle.std.proofs.Common.{IfNone, Option, Some, None}
use Rattle.dds_request.proofs.reading.wishes.Goals as goal

always : {X : Type 0} (P : Type 0) (r : Option X) → P → IfNone r P
always P None h = h
always P (Some x) h = tt

pub returns-in_err-number-clause-none : goal.returns-in_err-number-clause-none
returns-in_err-number-clause-none c = always _ c.from_residual-in_err-number.result (λ wishes w. c.in_err-number.ensures.none wishes.writes w.2)

pub returns-in_err-number-2-clause-none : goal.returns-in_err-number-2-clause-none
returns-in_err-number-2-clause-none c = always _ c.from_residual-in_err-number-2.result (λ wishes w. c.in_err-number-2.ensures.none wishes.takes w.3)

pub returns-in_err-number-3-clause-none : goal.returns-in_err-number-3-clause-none
returns-in_err-number-3-clause-none c = always _ c.from_residual-in_err-number-3.result (λ wishes w. c.in_err-number-3.ensures.none wishes.late w.4)
