use Rattle.std.proofs.Common.{ℕ, ◌<◌, length}
use Rattle.dds_conform.specs.declared.conformance.Within.{Within}
use Rattle.dds_conform.specs.Windows.{IsFound, Kept, end_of}
use Rattle.dds_conform.proofs.breaches.first_breach.Given as goal

-- the spans of the readers so far are kept up to what was found
abbrev pub invariant-loop-number : goal.invariant-loop-number
invariant-loop-number l = record {
  found : IsFound l.plan l.entries l.times (length l.entries) l.found;
  kept : (r : ℕ) (within : Within) → r < l.number → Kept l.plan l.entries l.times r within (end_of l.found (length l.entries));
}
