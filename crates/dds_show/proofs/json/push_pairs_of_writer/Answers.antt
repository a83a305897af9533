use Rattle.dds_show.specs.Json.{pair_at}
use Rattle.dds_text.proofs.TextLaws.{and_those}
use Rattle.dds_show.proofs.json.push_pairs_of_writer.Goals as goal

pub loop-r-preserved : goal.loop-r-preserved
loop-r-preserved c =
    and_those (pair_at c.args.lists.now c.args.w) c.loop-r.r c.args.found.now.items c.loop-r.found.items c.push_pair.new.found.items c.loop-r.invariant c.in_ok-push_pair.ensures
