use Rattle.std.proofs.Common.{rules, arith}
use Rattle.dds_book.proofs.GaugeCuts.{cuts_monitor}
use Rattle.dds_book.proofs.gauge.monitor.Goals as goal

pub split_seat-seat-requires : goal.split_seat-seat-requires
split_seat-seat-requires c = (search rules, omega arith, cuts_monitor c.args.table.now.key _ _)
