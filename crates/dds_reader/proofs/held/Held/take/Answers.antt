use Rattle.std.proofs.Common.{◌∙◌, ap, sym}
use Rattle.dds_cache.specs.Released.{is_listed}
use Rattle.dds_reader.specs.Marks.{in_marks}
use Rattle.dds_reader.proofs.HeldLaws.{tied_taken, taken_cases, writers_taken}
use Rattle.dds_reader.proofs.held.Held.take.Goals as goal

pub invariant_of-self : goal.invariant_of-self
invariant_of-self c =
    let old = c.args.self.now in
    record {
      tied = tied_taken (in_marks old.marks) old.cache c.take.new.self c.take.result old.tied c.take.ensures.state;
      listed = λ w. old.listed w ∙ sym (ap (is_listed w) (writers_taken old.cache c.take.new.self c.take.result c.take.ensures.state));
    }

pub returns-clause-answer : goal.returns-clause-answer
returns-clause-answer c =
    let old = c.args.self.now in
    taken_cases (in_marks old.marks) old.cache c.args.key c.take.result old.tied c.take.ensures.answer
