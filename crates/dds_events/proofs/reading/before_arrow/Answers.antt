use Rattle.std.proofs.Common.{◌∙◌}
use Rattle.dds_events.proofs.Arrows.{cut_before, uncut}
use Rattle.dds_events.proofs.reading.before_arrow.Goals as goal

pub returns-in-Some : goal.returns-in-Some
returns-in-Some c =
    let h = c.in-Some.ensures.cases in
    h.3 ∙ cut_before c.args.line.now h.0 _ h.2.0 h.2.1.split

pub returns-in-None : goal.returns-in-None
returns-in-None c = uncut c.args.line.now c.in-None.ensures.cases
