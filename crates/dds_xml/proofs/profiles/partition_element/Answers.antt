use Rattle.std.proofs.Common.{rules, ◌≡◌, ◌∙◌, flat_map, map, string_bytes, sym}
use Rattle.std.proofs.lemmas.List.Folds.{flat_map-map}
use Rattle.dds_xml.specs.Profiles.{partition_name}
use Rattle.dds_xml.proofs.profiles.partition_element.Goals as goal

pub returns : goal.returns
returns c =
    let xs = c.args.partitions.now in
    let names : string_bytes c.in_ok-names.names ≡ flat_map partition_name (map string_bytes xs) =
    c.in_ok-names.ensures (λ name. partition_name (string_bytes name)) (λ x r post. search rules) ∙ sym (flat_map-map partition_name string_bytes xs) in
    rw names at c.format.ensures.ok
