-- The targets of all keys.
use Rattle.std.proofs.Common.{ℕ, ◌≡◌, ap, flat_map}
use Rattle.std.specs.List.{range_with_len}
use Rattle.dds_match.specs.Network.{Network}
use Rattle.dds_propose.specs.Targets.{key_target, key_targets}

pub all_keys : (net : Network) (r n : ℕ) → n ≡ net.keys → flat_map (key_target net r) (range_with_len 0 n) ≡ key_targets net r
unfolding key_targets
all_keys net r n all = ap (λ m. flat_map (key_target net r) (range_with_len 0 m)) all
