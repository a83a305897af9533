-- How a handle follows the `&mut` to the guard behind it.
use base.Fml.{Fml}
use denote.Follow.{follows}
use Rattle.std.specs.Borrow.{MutBor}
use Rattle.dds_guard.specs.contracts.guard.Guard as Guard
use Rattle.dds_guard_c.specs.contracts.handle.Handle as Handle

-- the handle with this guard behind it
abbrev pub with_guard : Handle.the_row.Denot → Guard.the_row.Denot → Handle.the_row.Denot
with_guard h g = record h { guard = g }

abbrev pub handle_follows : MutBor Handle.the_row.Denot → MutBor Guard.the_row.Denot → Fml
handle_follows h g = follows Handle.the_row Guard.the_row h.ghost_name g.ghost_name (with_guard h.now)
