-- The lines that report a run.
use Rattle.std.specs.Prelude.{ℕ, Bool, true, false, List, [], ◌++◌, codes, length, map, Option, Some, None}
use Rattle.std.specs.Fmt.{decimal}
use Rattle.std.specs.List.{count_by, range_with_len, slice_index_or}
use Rattle.dds_base.specs.declared.events.Event.{Event}
use Rattle.dds_base.specs.declared.events.Reply.{Reply}
use Rattle.dds_base.specs.declared.events.Reply.TheVariants.{Took, Written}
use Rattle.dds_lists.specs.Lists.{Lists}
use Rattle.dds_text.specs.Names.{name_at}
use Rattle.dds_text.specs.Texts.{each_below}
use Rattle.dds_book.specs.declared.entry.Entry.{Entry}
use Rattle.dds_apps.specs.declared.player.AppEnd.{AppEnd}
use Rattle.dds_apps.specs.declared.player.AppEnd.TheVariants as end
use Rattle.dds_apps.specs.Kept.{entries_of}
use Rattle.dds_options.specs.declared.detail.Detail.{Detail}
use Rattle.dds_options.specs.declared.detail.Detail.TheVariants.{Plain, Explained}
use Rattle.dds_recap.specs.Explanation.{explanation}

-- the reply reports a sample that was written
abbrev pub tells_of_write : Reply → Bool
tells_of_write (Written n) = true
tells_of_write _ = false

-- the reply reports a sample that was taken
abbrev pub tells_of_take : Reply → Bool
tells_of_take (Took s) = true
tells_of_take _ = false

-- a sample was written
abbrev pub is_written : Event × Reply → Bool
is_written e = tells_of_write e.1

-- a sample was taken
abbrev pub is_taken : Event × Reply → Bool
is_taken e = tells_of_take e.1

-- the word for the end of an application's thread
abbrev pub end_word : AppEnd → List ℕ
end_word end.Stopped = codes "stopped"
end_word end.CallLimit = codes "limit"
end_word end.Idle = codes "idle"
end_word end.NoMemory = codes "memory"
end_word end.NotYours = codes "notyours"
end_word end.Cut = codes "cut"

-- the line of an application with this name: how much it wrote and took, and how its thread ended
abbrev pub app_line : List ℕ → List (Event × Reply) → AppEnd → List ℕ
app_line name entries ended =
    codes "app " ++ (name ++ (codes " written " ++ (decimal (count_by is_written entries) ++ (codes " taken " ++ (decimal (count_by is_taken entries)
    ++ (codes " " ++ (end_word ended ++ codes "\n")))))))

-- the names of the applications, in file order
abbrev pub app_names : Lists → List (List ℕ)
app_names d = map (name_at d.applications.names) (range_with_len 0 (length d.applications.entries))

-- the line of the application with this number: of its name, of its part of the journal, and of the end of its thread
abbrev pub line_at : List (List ℕ) → List Entry → List AppEnd → ℕ → List ℕ
line_at names journal ends app = app_line (slice_index_or names app []) (entries_of app journal) (slice_index_or ends app end.Stopped)

-- the lines of the applications with these names
abbrev pub run_lines : List (List ℕ) → List Entry → List AppEnd → List ℕ
run_lines names journal ends = each_below (length names) (line_at names journal ends)

-- what the journal of a run shows, where that is asked for
abbrev pub because_of : Detail → Lists → List Entry → List AppEnd → Option (List ℕ)
because_of Plain d journal ends = None
because_of Explained d journal ends = Some (explanation d journal ends)
