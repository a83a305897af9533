use Rattle.std.proofs.Common.{◌≡◌, ◌∙◌, sym, subst, List, length, rules}
use Rattle.std.specs.Map.{values_of}
use Rattle.std.specs.Vec.{with_items}
use Rattle.std.proofs.lemmas.List.{with_items_is}
use Rattle.dds_base.specs.Numbered.{AreRising}
use Rattle.dds_cache.specs.declared.released.Released.{Released}
use Rattle.dds_cache.specs.Released.{raised}
use Rattle.dds_cache.specs.Least.{IsUniform, AreListed}
use Rattle.dds_cache.specs.Order.{samples_of}
use Rattle.dds_cache.proofs.ReleasedLaws.{uniform_raised, all_listed_raised, rising_raised}
use Rattle.dds_cache.proofs.cache.Cache.release.Goals as goal

pub invariant_of-self : goal.invariant_of-self
invariant_of-self c =
    let ws = c.self.inside.writers.items in
    let stored = values_of (samples_of c.self.inside.contents.order.places) in
    let raises : c.raise.new.writers ≡ raised c.args.writer c.args.upto ws = search rules in
    let long : length c.raise.new.writers ≡ c.self.inside.writers.len = search rules in
    let is : (with_items c.self.inside.writers c.raise.new.writers).items ≡ raised c.args.writer c.args.upto ws =
    with_items_is c.self.inside.writers c.raise.new.writers long ∙ raises in
    record {
      uniform = subst (λ (l : List Released). IsUniform l) (sym is) (uniform_raised c.args.writer c.args.upto ws c.self.invariant.uniform);
      listed = subst (λ (l : List Released). AreListed stored l) (sym is) (all_listed_raised c.args.writer c.args.upto ws stored c.self.invariant.listed);
      rising = λ t. subst (λ (l : List Released). AreRising (λ r. r.writer) l) (sym is) (rising_raised c.args.writer c.args.upto ws (c.self.invariant.rising t));
      aged = c.self.invariant.aged;
    }
