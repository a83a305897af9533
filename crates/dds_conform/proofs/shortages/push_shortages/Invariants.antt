use Rattle.std.proofs.Common.{◌≡◌, ◌++◌, take}
use Rattle.dds_conform.specs.Shortages.{shortages_of}
use Rattle.dds_conform.proofs.shortages.push_shortages.Given as goal

-- what is lacked of the portions so far
abbrev pub invariant-loop-needed : goal.invariant-loop-needed
invariant-loop-needed l = l.short.items ≡ l.fn.short.items ++ shortages_of l.ledger.spare l.rule (take l.needed-index l.takes)
