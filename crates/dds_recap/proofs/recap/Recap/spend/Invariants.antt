use Rattle.std.proofs.Common.{◌≡◌, take}
use Rattle.dds_match.specs.Network.{named}
use Rattle.dds_recap.specs.Tally.{IsMoreBy}
use Rattle.dds_recap.proofs.recap.Recap.spend.Given as goal

-- the takes of the elements so far are spent, and nothing else has changed
abbrev pub invariant-loop-taken : goal.invariant-loop-taken
invariant-loop-taken l = record {
  spent : IsMoreBy (named (take l.taken-index l.takes)) l.initial.self.spent l.self.spent;
  same : l.self ≡ record l.initial.self { spent = l.self.spent };
}
