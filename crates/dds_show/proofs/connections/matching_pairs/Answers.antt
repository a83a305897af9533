use Rattle.std.proofs.Common.{[]}
use Rattle.dds_show.specs.Connections.{pairs_of_writer}
use Rattle.dds_text.proofs.TextLaws.{and_those}
use Rattle.dds_show.proofs.connections.matching_pairs.Goals as goal

pub loop-w-preserved : goal.loop-w-preserved
loop-w-preserved c =
    and_those (pairs_of_writer c.args.plan.now) c.loop-w.w [] c.loop-w.found.items c.push_pairs_of_writer.new.found.items c.loop-w.invariant c.in_ok-push_pairs_of_writer.ensures
