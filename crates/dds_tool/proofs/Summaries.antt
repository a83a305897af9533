-- How often an endpoint does something with each key.
use Rattle.std.proofs.Common.{ℕ, ◌≡◌, List, ap, flat_map}
use Rattle.std.specs.List.{range_with_len}
use Rattle.dds_lists.specs.Lists.{Lists}
use Rattle.dds_tool.specs.declared.summary.Act.{Act}
use Rattle.dds_tool.specs.Summary.{endpoint_parts, key_parts}

-- those of all keys
pub all_keys : (d : Lists) (what : Act) (e : ℕ) (keys : List ℕ) (n : ℕ) → n ≡ 64 → flat_map (key_parts d what e keys) (range_with_len 0 n) ≡ endpoint_parts d what keys e
unfolding endpoint_parts
all_keys d what e keys n all = ap (λ m. flat_map (key_parts d what e keys) (range_with_len 0 m)) all
