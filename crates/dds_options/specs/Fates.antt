-- The fates of packets.
use Rattle.std.specs.Prelude.{◌<◌, ◌≤◌, List, length}
use Rattle.dds_base.specs.declared.events.Fate.{Fate}

-- there are 1 to 64 of them
pub record AreFates (fates : List Fate) : Type 0 where
  pub some : 0 < length fates
  pub few : length fates ≤ 64
