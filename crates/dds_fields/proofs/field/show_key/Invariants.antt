use Rattle.std.proofs.Common.{◌≡◌, ◌≤◌, map, length, string_bytes}
use Rattle.dds_fields.specs.Reading.{shown_char}
use Rattle.dds_fields.proofs.field.show_key.Given as goal

abbrev pub invariant-loop-c : goal.invariant-loop-c
invariant-loop-c l = (string_bytes l.text ≡ map shown_char l.yielded) × (length l.yielded ≤ 64)
