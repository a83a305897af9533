use Rattle.std.proofs.Common.{sym}
use Rattle.dds_writer.proofs.Runs.{run_after, run_whole_below}
use Rattle.dds_writer.proofs.sending.first_silent.Goals as goal

pub returns-in-Some : goal.returns-in-Some
returns-in-Some c =
    run_after c.args.history.now.kept.items c.args.me c.args.low c.args.written c.args.proxy.now c.requires c.args.sn (sym c.if-not-is_silent.ensures) c.in-Some.last c.max.result c.in-Some.ensures c.max.ensures

pub returns-in-None : goal.returns-in-None
returns-in-None c =
    run_whole_below c.args.history.now.kept.items c.args.me c.args.low c.args.written c.args.proxy.now c.requires c.args.sn (sym c.if-not-is_silent.ensures) c.max-in-None.result c.in-None.ensures c.max-in-None.ensures
