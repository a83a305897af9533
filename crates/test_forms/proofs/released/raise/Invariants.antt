use Rattle.std.proofs.Common.{◌≡◌, ◌++◌, map, take, drop}
use Rattle.dds_cache.specs.Released.{lifted}
use Rattle.test_forms.proofs.released.raise.Given as goal

abbrev pub invariant-loop-listed : goal.invariant-loop-listed
invariant-loop-listed l =
    l.writers ≡ map (lifted l.writer l.upto) (take l.listed-index l.initial.writers) ++ drop l.listed-index l.initial.writers
