use Rattle.std.proofs.Common.{rules, tests, ◌≡◌, ◌&&◌, string_bytes, ap, sym, ◌∙◌}
use Rattle.std.specs.List.{list_any}
use Rattle.std.proofs.lemmas.Iterator.{YieldsList-from_slice}
use Rattle.std.proofs.lemmas.Iterator.Search.{any_from_yields_List}
use Rattle.dds_match.specs.Partitions.{is_pattern, name_matches}
use Rattle.dds_match.proofs.Patterns.{any_of_map}
use Rattle.dds_match.proofs.partitions.has_some_pattern.Goals as goal

pub returns-then-name-gt-MOST_BYTES : goal.returns-then-name-gt-MOST_BYTES
returns-then-name-gt-MOST_BYTES c =
    let some : c.any.result ≡ list_any (λ x. is_pattern (string_bytes x) && name_matches (string_bytes x) c.args.name.now) c.args.patterns.now = any_from_yields_List (λ x. is_pattern (string_bytes x) && name_matches (string_bytes x) c.args.name.now) _ _ c.any.result c.any.ensures.ran (YieldsList-from_slice c.args.patterns.now cc) (λ x b q k. search (rules, tests)) in
    some ∙ sym (any_of_map (λ x. is_pattern x && name_matches x c.args.name.now) string_bytes c.args.patterns.now)

pub returns : goal.returns
returns c =
    let some : c.any-2.result ≡ list_any (λ x. is_pattern (string_bytes x) && name_matches (string_bytes x) c.of-parts.result.name.now) c.args.patterns.now = any_from_yields_List (λ x. is_pattern (string_bytes x) && name_matches (string_bytes x) c.of-parts.result.name.now) _ _ c.any-2.result c.any-2.ensures.ran (YieldsList-from_slice c.args.patterns.now cc) (λ x b q k. search (rules, tests)) in
    some
    ∙ ap (λ n. list_any (λ x. is_pattern (string_bytes x) && name_matches (string_bytes x) n) c.args.patterns.now) (c.of-parts.ensures ∙ c.as_bytes.ensures.value)
    ∙ sym (any_of_map (λ x. is_pattern x && name_matches x c.args.name.now) string_bytes c.args.patterns.now)
