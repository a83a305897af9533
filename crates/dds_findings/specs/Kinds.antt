-- Of which kind a note is.
use Rattle.dds_lint.specs.declared.notes.Note.{Note}
use Rattle.dds_lint.specs.declared.notes.Note.TheVariants as note
use Rattle.dds_options.specs.declared.kinds.NoteKind.{NoteKind}
use Rattle.dds_options.specs.declared.kinds.NoteKind.TheVariants as kind

-- the kind of a note
abbrev pub kind_of : Note → NoteKind
kind_of (note.Watcher r) = kind.Watcher
kind_of (note.MayLose r) = kind.MayLose
kind_of (note.Unlimited r) = kind.Unlimited
kind_of (note.IdleLimit r) = kind.IdleLimit
kind_of (note.IdleReader r) = kind.IdleReader
kind_of (note.Stalls r) = kind.Stalls
kind_of (note.SpanUnused r u) = kind.PaceUnused
kind_of (note.WatcherSpan r) = kind.PaceUnused
kind_of (note.UnwrittenKey t k) = kind.UnwrittenKey
kind_of (note.IdleWriter w) = kind.IdleWriter
kind_of (note.UnheardWriter w) = kind.UnheardWriter
kind_of note.NoRules = kind.NoRules
kind_of note.NoStart = kind.NoStart
kind_of note.NoStrictReader = kind.NoStrictReader
kind_of (note.StuckRule u) = kind.StuckRule
kind_of (note.Stops u n) = kind.Stops
kind_of (note.Finite u) = kind.Finite
kind_of (note.LossyTake u) = kind.LossyTake
kind_of (note.PaceUnused u) = kind.PaceUnused
kind_of (note.UnusedRow i) = kind.UnusedRow
kind_of (note.NeedlessBound i) = kind.NeedlessBound
kind_of (note.NeedlessTotal i) = kind.NeedlessTotal
kind_of (note.Incompatible w r) = kind.Incompatible
kind_of (note.HeldUp w r) = kind.HeldUp
kind_of (note.LateReader r w) = kind.LateReader
