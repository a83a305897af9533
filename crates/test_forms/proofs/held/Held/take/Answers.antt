use Rattle.dds_reader.specs.Marks.{in_marks}
use Rattle.dds_reader.proofs.HeldLaws.{tied_taken, taken_cases}
use Rattle.test_forms.proofs.held.Held.take.Goals as goal

pub invariant_of-self : goal.invariant_of-self
invariant_of-self c = record {
  tied = tied_taken (in_marks c.args.self.now.marks.items) c.args.self.now.cache c.take.new.self c.take.result c.args.self.now.tied c.take.ensures.state;
}

pub returns-clause-answer : goal.returns-clause-answer
returns-clause-answer c =
    taken_cases (in_marks c.args.self.now.marks.items) c.args.self.now.cache c.args.key c.take.result c.args.self.now.tied c.take.ensures.answer
