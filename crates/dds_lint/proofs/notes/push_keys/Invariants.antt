use Rattle.std.proofs.Common.{◌≡◌, ◌++◌}
use Rattle.dds_lint.specs.Notes.{unwritten_keys}
use Rattle.dds_lint.specs.Every.{every_below}
use Rattle.dds_lint.proofs.notes.push_keys.Given as goal

-- the keys of the topics so far are added
abbrev pub invariant-loop-t : goal.invariant-loop-t
invariant-loop-t l = l.notes.items ≡ l.initial.notes.items ++ every_below l.t (unwritten_keys l.plan)
