use Rattle.std.proofs.Common.{◌∙◌, None, Some}
use Rattle.dds_reader.proofs.ListedLaws.{marked_found}
use Rattle.dds_reader.proofs.marks.Marks.is_marked.Goals as goal

pub returns-in-Some : goal.returns-in-Some
returns-in-Some c =
    c.is_marked.ensures ∙ marked_found c.self.inside.of c.args.self.now c.number.result c.args.writer c.args.n (Some c.in-Some.ranges.now) c.self.invariant c.self.view_is c.number.ensures c.in-Some.ensures.value

pub returns-in-None : goal.returns-in-None
returns-in-None c =
    marked_found c.self.inside.of c.args.self.now c.number.result c.args.writer c.args.n None c.self.invariant c.self.view_is c.number.ensures c.in-None.ensures.value
