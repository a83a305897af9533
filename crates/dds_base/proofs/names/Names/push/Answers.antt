use Rattle.std.proofs.Common.{◌≡◌, ◌++◌, ◌∷◌, [], None, map, sym, ap, ◌∙◌, string_bytes, position}
use Rattle.std.specs.Str.{bytes_eq}
use Rattle.std.proofs.lemmas.List.{map_push}
use Rattle.dds_base.specs.Names.{number_of}
use Rattle.dds_base.proofs.Places.{position-map, absent}
use Rattle.dds_base.proofs.names.Names.push.Goals as goal

pub returns-clause-ok : goal.returns-clause-ok
returns-clause-ok c =
    let ks = c.self.inside.set.keys in
    let name = string_bytes c.args.name in
    let none : position (λ k. bytes_eq name (string_bytes k)) ks ≡ None = sym (position-map (bytes_eq name) string_bytes ks) ∙ ap (λ ns. number_of ns name) c.self.view_is ∙ c.requires in
    let keys = rw (absent (λ k. bytes_eq name (string_bytes k)) ks none) at c.in_ok-insert.ensures.keys in
    ap (map string_bytes) keys ∙ map_push string_bytes ks c.args.name ∙ ap (λ ns. ns ++ name ∷ []) c.self.view_is
