use Rattle.std.proofs.Common.{◌≡◌, take}
use Rattle.std.specs.List.{All}
use Rattle.dds_base.specs.Sets.{set_of, is_listed, FitsAfter}
use Rattle.dds_base.proofs.sets.SnSet.new.Given as goal

abbrev pub invariant-loop-n : goal.invariant-loop-n
invariant-loop-n l = record {
  fits : All (FitsAfter l.base) (take l.n-index l.numbers);
  set : l.set ≡ set_of l.base (is_listed (take l.n-index l.numbers));
}
