use Rattle.std.proofs.Common.{◌≡◌, ◌++◌, take}
use Rattle.dds_cert.specs.Bounds.{bounds_of}
use Rattle.dds_cert.proofs.bounds.push_bounds.Given as goal

abbrev pub invariant-loop-key : goal.invariant-loop-key
invariant-loop-key l = l.all.items.items ≡ l.initial.all.items.items ++ bounds_of (l.reader, take l.key-index l.keys) (l.row, l.bound)
