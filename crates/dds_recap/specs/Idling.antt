-- What all applications wait for that were idle.
use Rattle.std.specs.Prelude.{ℕ, List, [], length, if◌then◌else◌}
use Rattle.std.specs.List.{slice_index_or}
use Rattle.dds_lists.specs.Lists.{Lists}
use Rattle.dds_text.specs.Texts.{each_below}
use Rattle.dds_apps.specs.declared.player.AppEnd.{AppEnd}
use Rattle.dds_apps.specs.declared.player.AppEnd.TheVariants as end
use Rattle.dds_recap.specs.Ends.{is_idle}
use Rattle.dds_recap.specs.Waits.{app_waits}

-- the lines of an application, if its thread ended since nothing changed any more
abbrev pub idle_waits : Lists → (ℕ → ℕ → ℕ) → List AppEnd → ℕ → List ℕ
idle_waits d spare ends a = if is_idle (slice_index_or ends a end.Stopped) then app_waits d spare a else []

-- the lines of all applications that were idle, in file order
abbrev pub wait_lines : Lists → (ℕ → ℕ → ℕ) → List AppEnd → List ℕ
wait_lines d spare ends = each_below (length d.applications.entries) (idle_waits d spare ends)
