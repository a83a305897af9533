-- Which ends of applications make a run good.
use Rattle.std.specs.Prelude.{Bool, true, false, List}
use Rattle.std.specs.List.{list_all}
use Rattle.dds_apps.specs.declared.player.AppEnd.{AppEnd}
use Rattle.dds_apps.specs.declared.player.AppEnd.TheVariants as end
use Rattle.dds_options.specs.declared.ends.GoodEnds.{GoodEnds}
use Rattle.dds_options.specs.declared.ends.GoodEnds.TheVariants.{Stopped, StoppedOrIdle}

-- the application's thread ended since nothing changed any more
abbrev pub is_idle : AppEnd → Bool
is_idle end.Idle = true
is_idle _ = false

-- the end of an application's thread is good: it ended as the application asked, or was idle where that is good too
abbrev pub is_good : GoodEnds → AppEnd → Bool
is_good good end.Stopped = true
is_good StoppedOrIdle end.Idle = true
is_good _ _ = false

-- all are
abbrev pub all_good : GoodEnds → List AppEnd → Bool
all_good good ends = list_all (is_good good) ends
