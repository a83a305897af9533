-- The laws of the crate's loops, one name for all.
use Rattle.dds_runs.proofs.Sums.{total_start, total_more}
use Rattle.dds_check.proofs.FirstLemmas.{all_below_start, all_below_more}
use Rattle.dds_lint.proofs.EveryLaws.{every_below_start, every_more}
use Rattle.dds_lint.proofs.FiringLaws.{any_below_start, any_below_more}

pub ruleset loop_laws = (every_below_start, every_more, any_below_start, any_below_more, total_start, total_more, all_below_start, all_below_more)
