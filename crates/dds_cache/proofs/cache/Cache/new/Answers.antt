use Rattle.std.proofs.Common.{◌≡◌, ◌∙◌, ap, subst, sym, ℕ, List, rules}
use Rattle.std.specs.Map.{values_of}
use Rattle.std.proofs.lemmas.List.{take_all}
use Rattle.std.proofs.lemmas.List.Elements.{All-nil}
use Rattle.dds_base.specs.declared.sample.Sample.{Sample}
use Rattle.dds_cache.specs.declared.released.Released.{Released}
use Rattle.dds_cache.specs.Released.{opened}
use Rattle.dds_cache.specs.Least.{IsUniform, AreListed}
use Rattle.dds_cache.proofs.ReleasedLaws.{uniform_opened}
use Rattle.dds_cache.proofs.cache.Cache.new.Goals as goal

pub invariant_of-result : goal.invariant_of-result
invariant_of-result c =
    let is : c.loop-writer.listed.items ≡ opened c.args.writers.now =
    c.loop-writer.invariant.0 ∙ ap (λ (l : List ℕ). opened l) (take_all c.loop-writer.writer-index c.args.writers.now c.loop-writer-test.false) in
    record {
      uniform = subst (λ (l : List Released). IsUniform l) (sym is) (uniform_opened c.args.writers.now);
      listed = subst (λ (l : List Sample). AreListed l c.loop-writer.listed.items) (sym (ap (λ es. values_of es) c.new.ensures.stored)) (All-nil _);
      rising = search rules;
      aged = search rules;
    }
