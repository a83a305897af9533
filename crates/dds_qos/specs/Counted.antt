-- How many samples each key has, of the keys that were met.
use Rattle.std.specs.Prelude.{◌≡◌, ℕ, List, unwrap_or}
use Rattle.std.specs.Ordering.{nat_cmp}
use Rattle.std.specs.BTreeMap.{BTreeMap}
use Rattle.std.specs.BTreeMap as tree
use Rattle.dds_base.specs.declared.sample.Sample.{Sample}
use Rattle.dds_qos.specs.Samples.{in_instance}

-- the map has for each key the number of its samples, where it has the key; no sample has another key
abbrev pub IsCounted : List Sample → BTreeMap ℕ ℕ → Type 0
IsCounted samples counts = (k : ℕ) → unwrap_or (tree.get nat_cmp counts k) 0 ≡ in_instance k samples
