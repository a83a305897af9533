-- The rows that the walks of a handle speak of: a box of the guard, with the allocator of C's heap.
use mathlib.Core.List.{[]}
use mir.Syntax.{impl, tnil, dnil}
use denote.Signature.{Slot, plain}
use Rattle.std_alloc.proofs.BoxSteps.Form.{Bx}
use Rattle.std_heap.specs.contracts.Global as Heap
use Rattle.std_heap.specs.contracts.GlobalAllocator.TheImpl.{ghosts, dict}
use Rattle.std_heap.proofs.Global.TheLaws as heap
use Rattle.dds_guard.specs.contracts.guard.Guard as Guard
use Rattle.dds_guard.proofs.guard.Guard.TheLaws as guard
use Rattle.dds_guard_c.specs.contracts.handle.Handle as Handle
use Rattle.dds_guard_c.specs.contracts.raw_box.RawBox as RawBox

-- a box of a guard
abbrev pub boxed : Bx
boxed = record { row = Guard.the_row; laws = guard.the_row_laws; al = record { row = Heap.the_row; laws = heap.the_row_laws; g = ghosts; d = dict; drops = impl [] tnil dnil } }

-- the parameter of a function that takes the parts of such a box, or a handle
abbrev pub raw_slot : Slot 0
raw_slot = plain (λ _. RawBox.the_row Guard.the_row Heap.the_row ghosts)

abbrev pub handle_slot : Slot 0
handle_slot = plain (λ _. Handle.the_row)
