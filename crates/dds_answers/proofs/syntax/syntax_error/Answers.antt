use Rattle.std.proofs.Common.{rules, true}
use Rattle.dds_fields.proofs.Documents.{document-some, document-none}
use Rattle.dds_answers.proofs.syntax.syntax_error.Goals as goal

pub returns-in-Ok : goal.returns-in-Ok
returns-in-Ok c = rw (document-some c.args.bytes.now _ c.in-Ok.ensures.ok.0 c.in-Ok.ensures.ok.1) (λ i. true)

pub returns : goal.returns
returns c = (document-none c.args.bytes.now (c.in-Err.ensures.refused (search rules)), (c.in-Some.span.start, search rules, search rules, search rules))
