use Rattle.dds_check.proofs.Fitting.{few_rows}
use Rattle.dds_lint.proofs.conditions.all_nos.Goals as goal

pub push_all-requires : goal.push_all-requires
push_all-requires c = few_rows _ _ c.requires
