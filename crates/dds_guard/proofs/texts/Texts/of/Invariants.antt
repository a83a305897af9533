use Rattle.std.proofs.Common.{◌≡◌, map, take, string_bytes}
use Rattle.dds_guard.proofs.texts.Texts.of.Given as goal

-- the names so far
abbrev pub invariant-loop-n : goal.invariant-loop-n
invariant-loop-n l = map string_bytes l.texts.items ≡ take l.n l.names
