use Rattle.std.proofs.Common.{◌∙◌, rules, tests}
use Rattle.std.proofs.lemmas.Iterator.{YieldsList-from_slice}
use Rattle.std.proofs.lemmas.Iterator.Consumers.{YieldsList-from_filter, count_from_yields_List}
use Rattle.dds_tool.specs.Running.{is_taken}
use Rattle.dds_tool.proofs.Tallies.{is_own, own_counted}
use Rattle.dds_tool.proofs.running.taken_by.Goals as goal

pub returns : goal.returns
returns c =
    count_from_yields_List _ c.count.result c.count.ensures.ran
    (YieldsList-from_filter _ (is_own is_taken c.args.seat) (YieldsList-from_slice c.args.entries.now cc) c.filter.ensures.closure (λ x b q k. search (rules, tests)))
    ∙ own_counted is_taken c.args.seat c.args.entries.now
