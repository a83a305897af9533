use Rattle.std.proofs.Common.{◌≡◌, ◌∙◌, refl, subst, sym, ap, ℕ, [], None, Option, Some, true, rules}
use Rattle.std.specs.Prelude.{option_map}
use Rattle.std.specs.Ordering.{nat_cmp}
use Rattle.std.specs.Map.{values_of, remove_entry}
use Rattle.std.specs.BTreeMap.{is_at}
use Rattle.std.proofs.lemmas.Map.Views.{All-map-remove_entry}
use Rattle.dds_base.specs.declared.sample.Sample.{Sample}
use Rattle.dds_qos.specs.Taking.{IsLeastOfWriter}
use Rattle.dds_cache.specs.Cache.{CacheState, available}
use Rattle.dds_cache.specs.Released.{is_listed}
use Rattle.dds_cache.specs.Least.{IsLeastAt, NoneAvailable, AreListed}
use Rattle.dds_cache.specs.Order.{Held, TakesOut, held_at, sample_of, samples_of}
use Rattle.dds_cache.proofs.PlaceLaws.{taken}
use Rattle.dds_cache.proofs.TakeLaws.{none_taken, standing, taken_least}
use Rattle.dds_cache.proofs.TicketLaws.{found_at, in_order}
use Rattle.dds_cache.proofs.cache.Cache.take.Goals as goal

pub returns-in_err-place-clause-answer : goal.returns-in_err-place-clause-answer
returns-in_err-place-clause-answer c =
    let s = c.self.inside.contents.order in
    let ws = c.self.inside.writers.items in
    let is : c.from_residual.result ≡ None = search rules in
    let none : NoneAvailable s.places ws c.args.key = search rules in
    rw is (subst (λ (v : CacheState). available v c.args.key ≡ []) c.self.view_is (none_taken s.places ws c.args.key s.ordered none))

pub invariant_of-self : goal.invariant_of-self
invariant_of-self c =
    let s = c.self.inside.contents.order in
    let ws = c.self.inside.writers.items in
    let p = c.in_ok-place.place in
    let found : IsLeastAt s.places ws c.args.key p = search rules in
    let h = standing (held_at s.places p) found.0.here in
    let m = samples_of s.places in
    let n = samples_of c.remove.new.self.order.places in
    let out : n ≡ remove_entry (is_at (nat_cmp h.0.0)) m = subst (λ (o : Option Held). TakesOut o m n) h.1 c.remove.ensures.samples in
    record {
      uniform = c.self.invariant.uniform;
      listed = subst (λ es. AreListed (values_of es) ws) (sym out)
          (All-map-remove_entry (is_at (nat_cmp h.0.0)) (λ (e : ℕ × Sample). e.1) (λ x. is_listed x.writer ws ≡ true) m c.self.invariant.listed);
      rising = c.self.invariant.rising;
      aged = c.self.invariant.aged ∙ sym c.remove.ensures.by_age;
    }

pub returns-clause-answer : goal.returns-clause-answer
returns-clause-answer c =
    let s = c.self.inside.contents.order in
    let ws = c.self.inside.writers.items in
    let p = c.in_ok-place.place in
    let found : IsLeastAt s.places ws c.args.key p = search rules in
    let h = standing (held_at s.places p) found.0.here in
    let gave : c.remove.result ≡ Some (sample_of p h.0.1) = c.remove.ensures.value ∙ ap (option_map (λ (g : Held). sample_of p g.1)) h.1 in
    rw gave (subst (λ (v : CacheState). IsLeastOfWriter (sample_of p h.0.1) (available v c.args.key)) c.self.view_is
    (taken_least s.places ws c.args.key p h.0 s.ordered s.apart found h.1))

pub returns-clause-state : goal.returns-clause-state
returns-clause-state c =
    let inside = c.self.inside in
    let s = inside.contents.order in
    let ws = inside.writers.items in
    let p = c.in_ok-place.place in
    let found : IsLeastAt s.places ws c.args.key p = search rules in
    let h = standing (held_at s.places p) found.0.here in
    let x = sample_of p h.0.1 in
    let m = samples_of s.places in
    let n = samples_of c.remove.new.self.order.places in
    let out : n ≡ remove_entry (is_at (nat_cmp h.0.0)) m = subst (λ (o : Option Held). TakesOut o m n) h.1 c.remove.ensures.samples in
    let gave : c.remove.result ≡ Some x = c.remove.ensures.value ∙ ap (option_map (λ (g : Held). sample_of p g.1)) h.1 in
    let there = found_at s.places.entries p h.0 s.apart h.1 in
    let gone = taken m h.0.0 x (in_order s.places.entries) there (λ t y here same. sym (inside.contents.single h.0.0 t x y there here same)) in
    rw (gave, out, c.remove.ensures.keys, gone, ← c.self.view_is) refl
