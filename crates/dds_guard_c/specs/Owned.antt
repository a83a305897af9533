-- What a handle owns: an open one what a box of the guard owns, any other nothing.
use Rattle.std.specs.Prelude.{Bool, true, false}
use base.Fml.{Fml, ftrue}
use base.Stored.{Coded}
use denote.RawPtr.{Ptr}
use Rattle.std.specs.Box.Ownership.{box_owns}
use Rattle.std.specs.Global.{Global}
use Rattle.std_heap.specs.contracts.GlobalAllocator.TheImpl.{ghosts}
use Rattle.dds_guard.specs.contracts.guard.Guard.{the_row}

abbrev pub handle_owns : Bool → Global → Ptr → the_row.Denot → Fml
handle_owns true alloc at g = box_owns (ghosts.dealloc_token alloc) the_row at g
handle_owns false alloc at g = ftrue

abbrev pub guard_coded : Coded the_row.Denot
guard_coded = the_row.coded
