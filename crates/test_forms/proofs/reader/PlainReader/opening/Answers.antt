use Rattle.std.proofs.Common.{◌∙◌, ap, sym}
use Rattle.std.proofs.lemmas.Bool.{false≢true}
use Rattle.dds_cache.specs.Released.{is_listed}
use Rattle.dds_cache.specs.Cache.{CacheState}
use Rattle.dds_reader.specs.Notes.{has_writer}
use Rattle.dds_reader.proofs.OpeningLaws.{opened_listed, opened_fits}
use Rattle.test_forms.proofs.reader.PlainReader.opening.Goals as goal

pub invariant_of-result : goal.invariant_of-result
invariant_of-result c = record {
  listed = λ v. ap (λ (s : CacheState). is_listed v s.writers) c.in_ok-held.ensures.cache ∙ opened_listed v c.args.writers.now
      ∙ sym (ap (has_writer v) c.in_ok-proxies.ensures);
  whole = rw c.in_ok-held.ensures.marks (λ t w n m h a b. absurd (false≢true h));
  heard = rw c.in_ok-proxies.ensures (opened_fits c.args.writers.now);
}
