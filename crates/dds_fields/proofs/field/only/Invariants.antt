use Rattle.std.proofs.Common.{◌≡◌, map, string_bytes}
use Rattle.std.specs.String.{string_cmp}
use Rattle.std.specs.List.Sorted.{IsStrictlySortedBy}
use Rattle.toml.specs.View.{table_view}
use Rattle.dds_fields.specs.Reading.{keys_of, unlisted}
use Rattle.dds_fields.proofs.field.only.Given as goal

abbrev pub invariant-loop-key : goal.invariant-loop-key
invariant-loop-key l =
    (unlisted (map (λ t. t.now) l.listed) (keys_of (table_view l.table)) ≡ unlisted (map (λ t. t.now) l.listed) (map string_bytes l.key-iterator))
    × IsStrictlySortedBy string_cmp l.key-iterator
