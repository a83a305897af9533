use Rattle.std.proofs.Common.{◌≡◌, ◌++◌, List, ℕ, IfOk, codes, flat_map, map, string_bytes, subst, sym}
use Rattle.std.proofs.lemmas.List.Folds.{flat_map-map}
use Rattle.dds_tool.proofs.summary.more_text.Goals as goal

pub returns : goal.returns
returns c =
    subst (λ (bytes : List ℕ). IfOk c.text_of_each.result (λ text. string_bytes text ≡ bytes)) (sym (flat_map-map (λ t. codes ", " ++ t) string_bytes c.args.parts.now))
    (c.text_of_each.ensures (λ part. codes ", " ++ string_bytes part) (λ x r post. post))
