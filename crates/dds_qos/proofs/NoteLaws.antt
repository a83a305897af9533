-- What a writer's due names is kept, and relevant exactly where it is Data.
use Rattle.std.proofs.Common.{◌≡◌, ℕ, ◌≤◌, Bool, true, leb, ltb, ◌&&◌, ◌||◌, arith}
use Rattle.std.proofs.lemmas.Bool.{and_parts}
use Rattle.dds_base.proofs.SumLaws.{least_passes}
use Rattle.dds_base.specs.Sets.{has}
use Rattle.dds_qos.specs.Notes.{Notes, is_due, due_number}

-- a number within what is written passes the test of what is due
pub due_passes : (kept : ℕ → Bool) (base : ℕ) (notes : Notes) (written : ℕ) → due_number kept base notes written ≤ written → is_due kept base notes (due_number kept base notes written) ≡ true
due_passes kept base notes written within = least_passes (is_due kept base notes) written 1 (omega arith)

pub due_kept : (kept : ℕ → Bool) (base : ℕ) (notes : Notes) (written : ℕ) → due_number kept base notes written ≤ written → kept (due_number kept base notes written) ≡ true
due_kept kept base notes written within =
    let n = due_number kept base notes written in
    (and_parts (kept (due_number kept base notes written)) (leb base (due_number kept base notes written) && (has notes.asked (due_number kept base notes written) || ltb notes.sent (due_number kept base notes written))) (due_passes kept base notes written within)).0
