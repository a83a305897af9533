use Rattle.std.proofs.Common.{◌∙◌, arith, sym}
use Rattle.std.proofs.lemmas.Slice.Eq.{bytes_eq-Decides}
use Rattle.std.proofs.lemmas.Str.Pattern.{split_once_first}
use Rattle.dds_options.proofs.WordLaws.{same_about}
use Rattle.dds_options.proofs.allowed.is_about.Goals as goal

pub returns-then-eq : goal.returns-then-eq
returns-then-eq c =
    let parts = rw c.in-Some.is at (split_once_first 58 c.args.word.now c.split_once.result c.split_once.ensures.cases (omega arith)) in
    let named = (bytes_eq-Decides c.in-Some.name.now c.name.result.now).0 (sym c.eq.ensures ∙ c.if-eq.true) in
    c.eq-then-eq.ensures ∙ same_about c.args.word.now c.in-Some.name.now c.in-Some.about.now c.args.kind c.args.subject.now parts (named ∙ c.name.ensures)
