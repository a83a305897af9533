-- What a run's journal shows: how full each reader was, and what the idle applications wait for.
use Rattle.std.specs.Prelude.{ℕ, List, ◌++◌}
use Rattle.dds_lists.specs.Lists.{Lists}
use Rattle.dds_match.specs.Plan.{network_of}
use Rattle.dds_runs.specs.World.{spare}
use Rattle.dds_book.specs.declared.entry.Entry.{Entry}
use Rattle.dds_book.specs.Journal.{pairs_of, world_after}
use Rattle.dds_apps.specs.declared.player.AppEnd.{AppEnd}
use Rattle.dds_recap.specs.Held.{most_held, most_held_in_all}
use Rattle.dds_recap.specs.Idling.{wait_lines}
use Rattle.dds_recap.specs.Lines.{reader_lines}

-- the lines of the readers of the journal's run, and those of the applications whose threads ended idle
abbrev pub explanation : Lists → List Entry → List AppEnd → List ℕ
explanation d entries ends =
    reader_lines d (most_held (network_of d) (pairs_of entries)) (most_held_in_all (network_of d) (pairs_of entries)) ++ wait_lines d (spare (network_of d) (world_after d entries)) ends
