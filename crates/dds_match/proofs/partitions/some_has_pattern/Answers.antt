use Rattle.std.proofs.Common.{rules, tests, ◌≡◌, ◌&&◌, not, map, string_bytes, sym, ◌∙◌}
use Rattle.std.specs.List.{list_any}
use Rattle.std.proofs.lemmas.Iterator.{YieldsList-from_slice}
use Rattle.std.proofs.lemmas.Iterator.Search.{any_from_yields_List}
use Rattle.dds_match.specs.Partitions.{is_pattern, name_matches}
use Rattle.dds_match.proofs.Patterns.{names_of_some}
use Rattle.dds_match.proofs.partitions.some_has_pattern.Goals as goal

pub returns : goal.returns
returns c =
    let some : c.any.result ≡ list_any (λ y. not (is_pattern (string_bytes y)) && list_any (λ x. is_pattern x && name_matches x (string_bytes y)) (map string_bytes c.args.patterns.now)) c.args.names.now = any_from_yields_List (λ y. not (is_pattern (string_bytes y)) && list_any (λ x. is_pattern x && name_matches x (string_bytes y)) (map string_bytes c.args.patterns.now)) _ _ c.any.result c.any.ensures.ran (YieldsList-from_slice c.args.names.now cc) (λ x b q k. search (rules, tests)) in
    some ∙ sym (names_of_some (λ y. not (is_pattern y) && list_any (λ x. is_pattern x && name_matches x y) (map string_bytes c.args.patterns.now)) string_bytes c.args.names.now (sym c.is_empty.ensures ∙ c.if-is_empty.false))
