use Rattle.std.proofs.Common.{◌∙◌, ap, subst}
use Rattle.std.specs.Io.KnownBytes.{Appends}
use Rattle.dds_answers.specs.Fault.{fault_line}
use Rattle.dds_tool.proofs.Told.{answer_tells, bad_told, fault_keeps, fault_tells, run_accepted}
use Rattle.dds_tool.proofs.commands.obey.Goals as goal

pub returns-in-Ok-clause-answer : goal.returns-in-Ok-clause-answer
returns-in-Ok-clause-answer g c = λ few. answer_tells (g.S.Sources.holds c.args.files.now) c.args.request c.in-Ok.exit (g.O.Output.contents c.args.out.now) _ c.in-Ok.ensures.exit c.in-Ok.ensures.answer

pub returns-in-Err-clause-answer : goal.returns-in-Err-clause-answer
returns-in-Err-clause-answer g c =
    fault_tells (g.S.Sources.holds c.args.files.now) c.args.request c.in-Err.fault c.tell_in_style.result (g.O.Output.has_failed c.tell_in_style.new.out) (g.O.Output.contents c.args.out.now)
    (g.O.Output.contents c.run_request.new.out) (g.O.Output.contents c.tell_in_style.new.out) c.in-Err.ensures.fault c.in-Err.ensures.ends c.in-Err.ensures.nothing c.tell_in_style.ensures.exit
    (λ text. ap g.O.Output.contents (c.tell_in_style.ensures.lines (c.style-style.ensures ∙ text))) (λ json. c.tell_in_style.ensures.document (c.style-style.ensures ∙ json))

pub returns-in-Err-clause-nothing : goal.returns-in-Err-clause-nothing
returns-in-Err-clause-nothing g c = λ fault other.
    fault_keeps c.args.request c.in-Err.fault c.tell_in_style.result (g.O.Output.has_failed c.tell_in_style.new.out) (g.O.Output.contents c.args.out.now)
    (g.O.Output.contents c.run_request.new.out) (g.O.Output.contents c.tell_in_style.new.out) c.in-Err.ensures.nothing c.tell_in_style.ensures.exit
    (λ text. ap g.O.Output.contents (c.tell_in_style.ensures.lines (c.style-style.ensures ∙ text))) other

pub returns-in-Err-clause-run : goal.returns-in-Err-clause-run
returns-in-Err-clause-run g c =
    run_accepted (g.S.Sources.holds c.args.files.now) c.args.request c.in-Err.fault c.tell_in_style.result (g.O.Output.has_failed c.tell_in_style.new.out) (g.S.Sources.has_failed c.run_request.new.files)
    (g.O.Output.has_failed c.run_request.new.out) c.tell_in_style.ensures.exit c.in-Err.ensures.ends c.in-Err.ensures.causes

pub returns-in-Err-clause-bad_file : goal.returns-in-Err-clause-bad_file
returns-in-Err-clause-bad_file g c = λ unfailed two.
    let bad = c.tell_in_style.ensures.bad_file two in
    bad_told (g.S.Sources.holds c.args.files.now) c.args.request c.in-Err.fault c.tell_in_style.result (g.E.Output.contents c.args.err.now) (g.E.Output.contents c.tell_in_style.new.err) c.in-Err.ensures.ends
    bad.0 two (subst (λ (old : _). Appends (g.E.Output.contents old) (g.E.Output.contents c.tell_in_style.new.err) (fault_line c.in-Err.fault)) c.in-Err.ensures.untold (bad.1 unfailed))
