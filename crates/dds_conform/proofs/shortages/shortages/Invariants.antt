use Rattle.std.proofs.Common.{◌≡◌, flat_map}
use Rattle.std.specs.List.{range_with_len}
use Rattle.dds_match.specs.Plan.{network_of}
use Rattle.dds_conform.specs.Shortages.{rule_shortages}
use Rattle.dds_conform.proofs.shortages.shortages.Given as goal

-- what the rules so far lack
abbrev pub invariant-loop-u : goal.invariant-loop-u
invariant-loop-u l = l.short.items ≡ flat_map (rule_shortages (network_of l.plan) l.ledger.spare l.writer l.key) (range_with_len 0 l.u)
