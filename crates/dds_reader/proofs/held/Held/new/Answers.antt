use Rattle.std.proofs.Common.{◌∙◌, ap, sym}
use Rattle.dds_cache.specs.Released.{is_listed}
use Rattle.dds_cache.specs.Cache.{CacheState}
use Rattle.dds_reader.specs.Marks.{in_marks}
use Rattle.dds_reader.proofs.OpeningLaws.{opened_names, opened_tied}
use Rattle.dds_reader.proofs.held.Held.new.Goals as goal

pub invariant_of-result : goal.invariant_of-result
invariant_of-result c =
    let writers = ap (λ (v : CacheState). v.writers) c.in_ok-cache.ensures in
    record {
      tied = opened_tied (in_marks c.in_ok-marks.marks) c.in_ok-cache.cache c.args.writers.now c.in_ok-marks.ensures.unmarked (ap (λ (v : CacheState). v.stored) c.in_ok-cache.ensures) writers;
      listed = λ w. c.in_ok-marks.ensures.writers w ∙ sym (opened_names w c.args.writers.now) ∙ sym (ap (is_listed w) writers);
    }
