use Rattle.std.proofs.Common.{Ok, inl, refl}
use Rattle.dds_conform.specs.Traces.{times_of}
use Rattle.dds_tool.specs.Conforming.{MayConform}
use Rattle.dds_tool.proofs.Outcomes.{memory_comes}
use Rattle.dds_tool.proofs.conforming.judge.Goals as goal

pub returns-in-Ok-clause-judged : goal.returns-in-Ok-clause-judged
returns-in-Ok-clause-judged c = λ names style bytes text are.
    (tt, inl (text, c.args.trace.now.entries.items, times_of c.args.trace.now, c.in-Ok.conformance, are.entries, are.times, c.in-Ok.ensures, refl))

pub returns-in-Err-clause-judged : goal.returns-in-Err-clause-judged
returns-in-Err-clause-judged c = λ names style bytes text are. memory_comes ⊥ (MayConform style (Ok c.args.plan) bytes) names style
