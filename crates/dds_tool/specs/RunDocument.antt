-- The document that reports a run.
use Rattle.std.specs.Prelude.{ℕ, Bool, List, [], ◌++◌, codes, length, map, Option, Some, None, unwrap_or}
use Rattle.std.specs.List.{count_by, range_with_len, slice_index_or}
use Rattle.serde_json.specs.Data.{Data, array, member, no_members, number, object, string, unsigned}
use Rattle.serde_json.specs.View.{items_of}
use Rattle.dds_base.specs.declared.events.Event.{Event}
use Rattle.dds_base.specs.declared.events.Reply.{Reply}
use Rattle.dds_book.specs.declared.entry.Entry.{Entry}
use Rattle.dds_apps.specs.declared.player.AppEnd.{AppEnd}
use Rattle.dds_apps.specs.declared.player.AppEnd.TheVariants as end
use Rattle.dds_apps.specs.Kept.{entries_of}
use Rattle.dds_json.specs.Line.{line_of}
use Rattle.dds_json.specs.Matching.{answer_word}
use Rattle.dds_options.specs.declared.style.Style.{Style}
use Rattle.dds_options.specs.declared.style.Style.TheVariants.{Text, Json}
use Rattle.dds_tool.specs.Running.{end_word, is_taken, is_written, run_lines}

-- the application with this name: how much it wrote and took, and how its thread ended
abbrev pub app_document : List ℕ → List (Event × Reply) → AppEnd → Data
app_document name entries ended =
    object (member (codes "application") (string name) (member (codes "end") (string (end_word ended)) (member (codes "taken") (number (unsigned (count_by is_taken entries))) (member (codes "written") (number (unsigned (count_by is_written entries))) no_members))))

-- the application with this number: of its name, of its part of the journal, and of the end of its thread
abbrev pub document_at : List (List ℕ) → List Entry → List AppEnd → ℕ → Data
document_at names journal ends app = app_document (slice_index_or names app []) (entries_of app journal) (slice_index_or ends app end.Stopped)

-- the applications with these names
abbrev pub app_documents : List (List ℕ) → List Entry → List AppEnd → Data
app_documents names journal ends = array (items_of (map (document_at names journal ends) (range_with_len 0 (length names))))

-- yes or no, with each application, and what the journal shows, where that is asked for
abbrev pub run_document : Bool → Option (List ℕ) → List (List ℕ) → List Entry → List AppEnd → Data
run_document is_yes None names journal ends =
    object (member (codes "answer") (string (answer_word is_yes)) (member (codes "applications") (app_documents names journal ends) no_members))
run_document is_yes (Some because) names journal ends =
    object (member (codes "answer") (string (answer_word is_yes)) (member (codes "applications") (app_documents names journal ends) (member (codes "because") (string because) no_members)))

-- a run, in this style: yes or no, and what its journal shows, where that is asked for
abbrev pub told_run : Style → Bool → Option (List ℕ) → List (List ℕ) → List Entry → List AppEnd → List ℕ
told_run Text is_yes because names journal ends = run_lines names journal ends ++ unwrap_or because []
told_run Json is_yes because names journal ends = line_of (run_document is_yes because names journal ends)
