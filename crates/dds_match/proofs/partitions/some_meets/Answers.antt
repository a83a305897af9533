use Rattle.std.proofs.Common.{rules, tests, ◌≡◌, ◌&&◌, not, map, string_bytes, sym, ◌∙◌}
use Rattle.std.specs.List.{list_any}
use Rattle.std.proofs.lemmas.Iterator.{YieldsList-from_slice}
use Rattle.std.proofs.lemmas.Iterator.Search.{any_from_yields_List}
use Rattle.dds_match.specs.Partitions.{is_pattern, name_matches, partition_names}
use Rattle.dds_match.proofs.Patterns.{names_of_some}
use Rattle.dds_match.proofs.partitions.some_meets.Goals as goal

pub returns : goal.returns
returns c =
    let some : c.any.result ≡ list_any (λ x. not (is_pattern (string_bytes x)) && list_any (λ y. name_matches y (string_bytes x)) (partition_names (map string_bytes c.args.others.now))) c.args.names.now = any_from_yields_List (λ x. not (is_pattern (string_bytes x)) && list_any (λ y. name_matches y (string_bytes x)) (partition_names (map string_bytes c.args.others.now))) _ _ c.any.result c.any.ensures.ran (YieldsList-from_slice c.args.names.now cc) (λ x b q k. search (rules, tests)) in
    some ∙ sym (names_of_some (λ x. not (is_pattern x) && list_any (λ y. name_matches y x) (partition_names (map string_bytes c.args.others.now))) string_bytes c.args.names.now (sym c.is_empty.ensures ∙ c.if-is_empty.false))
