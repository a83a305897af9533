-- The first condition that fails, in the order of the numbers.
use Rattle.std.specs.Prelude.{Option}
use Rattle.dds_lists.specs.Lists.{Lists}
use Rattle.dds_match.specs.Plan.{network_of}
use Rattle.dds_weights.specs.Lists.{Certificate}
use Rattle.dds_check.specs.declared.verdict.No.{No}
use Rattle.dds_runs.specs.First.{◌orElse◌}
use Rattle.dds_check.specs.Pairs.{pairs_no}
use Rattle.dds_check.specs.Profile.{profile_no}
use Rattle.dds_check.specs.Limits.{limits_no}
use Rattle.dds_check.specs.Joins.{joins_no}
use Rattle.dds_check.specs.Rows.{rows_no}
use Rattle.dds_check.specs.Shown.{shown_no}

-- None where every condition holds, and else the refusal with its number and subject
unfoldable pub first_no : Lists → Certificate → Option No
first_no d cert =
    pairs_no (network_of d)
    orElse profile_no d
    orElse limits_no (network_of d) cert
    orElse joins_no (network_of d)
    orElse rows_no (network_of d) cert.rows
    orElse shown_no (network_of d) cert
