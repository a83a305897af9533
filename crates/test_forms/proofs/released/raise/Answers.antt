use Rattle.std.proofs.lemmas.List.Edits.{map_over_more}
use Rattle.dds_cache.specs.Released.{lifted}
use Rattle.test_forms.proofs.released.raise.Goals as goal

pub loop-listed-preserved : goal.loop-listed-preserved
loop-listed-preserved c =
    rw (c.lift.ensures, ← c.listed-item.is)
    (map_over_more (lifted c.args.writer c.args.upto) c.args.writers.now c.loop-listed.writers c.loop-listed.listed-index c.listed-item.result c.loop-listed-test.true c.loop-listed.invariant c.listed-item.is)
