use Rattle.std.proofs.Common.{rules, tests, ◌≡◌, string_bytes, sym, ◌∙◌}
use Rattle.std.specs.List.{list_any}
use Rattle.std.proofs.lemmas.Iterator.{YieldsList-from_slice}
use Rattle.std.proofs.lemmas.Iterator.Search.{any_from_yields_List}
use Rattle.dds_match.specs.Partitions.{is_pattern}
use Rattle.dds_match.proofs.Patterns.{any_of_map}
use Rattle.dds_match.proofs.partitions.has_patterns.Goals as goal

pub returns : goal.returns
returns c =
    let some : c.any.result ≡ list_any (λ x. is_pattern (string_bytes x)) c.args.names.now = any_from_yields_List (λ x. is_pattern (string_bytes x)) _ _ c.any.result c.any.ensures.ran (YieldsList-from_slice c.args.names.now cc) (λ x b q k. search (rules, tests)) in
    some ∙ sym (any_of_map is_pattern string_bytes c.args.names.now)
