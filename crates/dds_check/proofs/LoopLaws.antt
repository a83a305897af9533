-- The laws of the crate's loops, one name for all.
use Rattle.dds_runs.proofs.Sums.{total_start, total_more}
use Rattle.dds_check.proofs.FirstLemmas.{first_below_start, first_below_more, first_below_found, all_below_start, all_below_more}

pub ruleset loop_laws = (first_below_start, first_below_more, first_below_found, total_start, total_more, all_below_start, all_below_more)
