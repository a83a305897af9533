-- Diaries.
use Rattle.std.specs.Prelude.{List, [], Option, None}
use Rattle.dds_base.specs.declared.events.Event.{Event}
use Rattle.dds_base.specs.declared.events.Reply.{Reply}

-- what a contract sees of a diary: what was done and what came of it, and the event that waits for its reply
pub record DiaryState : Type 0 where
  pub entries : List (Event × Reply)
  pub pending : Option Event

-- a diary without entries, in which nothing waits
abbrev pub empty_diary : DiaryState
empty_diary = record { entries = []; pending = None }
