use Rattle.dds_tool.proofs.Requests.{answered, ends_given, faulted}
use Rattle.dds_tool.proofs.commands.run_request.Goals as goal

pub returns-clause-answer : goal.returns-clause-answer
returns-clause-answer g c =
    answered (g.S.Sources.holds c.args.files.now) c.args.request c.answer_of.result c.give.result (g.O.Output.contents c.args.out.now) _
    c.answer_of.ensures.gives c.give.ensures.answer c.give.ensures.passed

pub returns-clause-fault : goal.returns-clause-fault
returns-clause-fault g c =
    faulted (g.S.Sources.holds c.args.files.now) c.args.request c.answer_of.result c.give.result (g.O.Output.contents c.args.out.now) (g.O.Output.contents c.give.new.out)
    c.answer_of.ensures.gives c.give.ensures.fault c.give.ensures.nothing c.give.ensures.passed

pub returns-clause-ends : goal.returns-clause-ends
returns-clause-ends g c =
    ends_given (g.S.Sources.holds c.args.files.now) c.args.request c.answer_of.result c.give.result (g.O.Output.has_failed c.give.new.out) c.answer_of.ensures.gives c.give.ensures.failed c.give.ensures.passed
