use Rattle.std.proofs.Common.{length, ap, ◌∙◌}
use Rattle.std.specs.Str.Lines.{lines}
use Rattle.dds_conform.proofs.Stamped.{entry_count}
use Rattle.dds_conform.proofs.Told.{line_fault, of_error, times_fault}
use Rattle.dds_conform.proofs.reading.read_text.Goals as goal

pub read_times-requires : goal.read_times-requires
read_times-requires c = ap length c.deref.ensures.value ∙ entry_count c.args.plan.now (lines c.args.text.now) c.in_ok-entries.entries.items c.in_ok-entries.ensures.entries
