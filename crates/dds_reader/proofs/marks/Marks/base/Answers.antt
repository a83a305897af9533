use Rattle.std.proofs.Common.{ℕ, None, Some}
use Rattle.dds_reader.specs.Ranges.{has}
use Rattle.dds_reader.specs.Marks.{in_marks}
use Rattle.dds_reader.proofs.ListedLaws.{marked_found}
use Rattle.dds_reader.proofs.MarkLaws.{least_alike, least_of_none, least_high, least_is_base}
use Rattle.dds_reader.proofs.marks.Marks.base.Goals as goal

pub returns-in-Some : goal.returns-in-Some
returns-in-Some c =
    let r = c.in-Some.ranges.now in
    let p = in_marks c.args.self.now c.args.writer in
    let found = λ (n : ℕ). marked_found c.self.inside.of c.args.self.now c.number.result c.args.writer n (Some r) c.self.invariant c.self.view_is c.number.ensures c.in-Some.ensures.value in
    let least = least_alike p (has r.base r.above) c.base.result found c.base.ensures in
    record {
      least = least;
      base = least_is_base p c.base.result least c.requires;
      high = least_high p c.base.result least c.requires;
    }

pub returns-in-None : goal.returns-in-None
returns-in-None c =
    let p = in_marks c.args.self.now c.args.writer in
    let least = least_of_none p (λ (n : ℕ). marked_found c.self.inside.of c.args.self.now c.number.result c.args.writer n None c.self.invariant c.self.view_is c.number.ensures c.in-None.ensures.value) in
    record {
      least = least;
      base = least_is_base p 1 least c.requires;
      high = least_high p 1 least c.requires;
    }
