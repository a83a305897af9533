-- The kinds of notes, by name.
use Rattle.std.specs.Prelude.{ℕ, Bool, true, false, List, codes}
use Rattle.dds_options.specs.declared.kinds.NoteKind.{NoteKind}
use Rattle.dds_options.specs.declared.kinds.NoteKind.TheVariants as kind

-- the name of a kind
abbrev pub kind_word : NoteKind → List ℕ
kind_word kind.Watcher = codes "Watcher"
kind_word kind.MayLose = codes "MayLose"
kind_word kind.Unlimited = codes "Unlimited"
kind_word kind.IdleLimit = codes "IdleLimit"
kind_word kind.IdleReader = codes "IdleReader"
kind_word kind.Stalls = codes "Stalls"
kind_word kind.PaceUnused = codes "PaceUnused"
kind_word kind.UnwrittenKey = codes "UnwrittenKey"
kind_word kind.IdleWriter = codes "IdleWriter"
kind_word kind.UnheardWriter = codes "UnheardWriter"
kind_word kind.NoRules = codes "NoRules"
kind_word kind.NoStart = codes "NoStart"
kind_word kind.NoStrictReader = codes "NoStrictReader"
kind_word kind.StuckRule = codes "StuckRule"
kind_word kind.Stops = codes "Stops"
kind_word kind.Finite = codes "Finite"
kind_word kind.LossyTake = codes "LossyTake"
kind_word kind.UnusedRow = codes "UnusedRow"
kind_word kind.NeedlessBound = codes "NeedlessBound"
kind_word kind.NeedlessTotal = codes "NeedlessTotal"
kind_word kind.Incompatible = codes "Incompatible"
kind_word kind.HeldUp = codes "HeldUp"
kind_word kind.LateReader = codes "LateReader"

-- its place among the kinds, from 0, and how many kinds there are
abbrev pub kind_place : NoteKind → ℕ
kind_place kind.Watcher = 0
kind_place kind.MayLose = 1
kind_place kind.Unlimited = 2
kind_place kind.IdleLimit = 3
kind_place kind.IdleReader = 4
kind_place kind.Stalls = 5
kind_place kind.PaceUnused = 6
kind_place kind.UnwrittenKey = 7
kind_place kind.IdleWriter = 8
kind_place kind.UnheardWriter = 9
kind_place kind.NoRules = 10
kind_place kind.NoStart = 11
kind_place kind.NoStrictReader = 12
kind_place kind.StuckRule = 13
kind_place kind.Stops = 14
kind_place kind.Finite = 15
kind_place kind.LossyTake = 16
kind_place kind.UnusedRow = 17
kind_place kind.NeedlessBound = 18
kind_place kind.NeedlessTotal = 19
kind_place kind.Incompatible = 20
kind_place kind.HeldUp = 21
kind_place kind.LateReader = 22

abbrev pub kinds : ℕ
kinds = 23

-- a note of this kind says of a reader what its deployment says itself
abbrev pub is_declared : NoteKind → Bool
is_declared kind.MayLose = true
is_declared _ = false
