-- The parts of an entry of a trace.
use Rattle.std.specs.Prelude.{ℕ}
use Rattle.dds_conform.specs.declared.actions.Action.{Action}
use Rattle.dds_conform.specs.declared.actions.Action.TheVariants.{Write, Take}
use Rattle.dds_conform.specs.declared.actions.Entry.{Entry}
use Rattle.dds_conform.specs.declared.actions.Entry.TheVariants.{Wrote, Took}

-- the number of the line, from 1
abbrev pub entry_line : Entry → ℕ
entry_line (Wrote n a w k) = n
entry_line (Took n a r k) = n

abbrev pub entry_application : Entry → ℕ
entry_application (Wrote n a w k) = a
entry_application (Took n a r k) = a

-- what the application did
abbrev pub entry_action : Entry → Action
entry_action (Wrote n a w k) = Write w k
entry_action (Took n a r k) = Take r k
