use Rattle.std.proofs.Common.{◌≡◌, ◌∙◌, ◌<◌, List, None, Option, Some, sym, ap, subst, rules}
use Rattle.std.specs.List.{All}
use Rattle.std.specs.Map.{values_of}
use Rattle.std.specs.BTreeMap.{is_at}
use Rattle.std.proofs.lemmas.Map.Views.{All-map-remove_entry}
use Rattle.dds_cache.specs.Order.{Place, Held, Samples, TakesOut, held_at, place_cmp, sample_of, are_apart, by_ticket, samples_of}
use Rattle.dds_cache.proofs.PairLaws.{indexed_remove}
use Rattle.dds_cache.proofs.TicketLaws.{Changes, went, apart_went, changes_out, found_at, in_order}
use Rattle.dds_cache.proofs.order.Order.remove.Goals as goal

pub returns-clause-samples : goal.returns-clause-samples
returns-clause-samples c =
    let s = c.args.self.now in
    let p = c.args.place in
    let h : Held = (c.in_ok-ticket.ticket, c.in_ok-ticket.carried) in
    let there : held_at s.places p ≡ Some h = search rules in
    let m = samples_of s.places in
    subst (λ (o : Option Held). TakesOut o m (samples_of c.remove.new.self)) (sym there)
    (ap (λ es. by_ticket es) c.remove.ensures.entries ∙ went s.places.entries p h there s.apart)

pub invariant_of-self-2 : goal.invariant_of-self-2
invariant_of-self-2 c =
    let s = c.args.self.now in
    let p = c.args.place in
    let h : Held = (c.in_ok-ticket.ticket, c.in_ok-ticket.carried) in
    let there : held_at s.places p ≡ Some h = search rules in
    let m = samples_of s.places in
    let n = samples_of c.remove.new.self in
    let out = c.remove.ensures.entries in
    let shrunk = ap (λ es. by_ticket es) out ∙ went s.places.entries p h there s.apart in
    record {
      ordered = c.remove.ensures.ordered;
      below = subst (λ (es : List (Place × Held)). All (λ (g : Held). g.0 < s.next) (values_of es)) (sym out)
          (All-map-remove_entry (is_at (place_cmp p)) (λ (e : Place × Held). e.1) (λ (g : Held). g.0 < s.next) s.places.entries s.below);
      apart = ap (λ es. are_apart es) out ∙ apart_went s.places.entries p h there s.apart;
      indexed = λ on. indexed_remove m n s.tickets c.strike.new.tickets h.0 (sample_of p h.1) (s.indexed on) (found_at s.places.entries p h s.apart there)
          (c.strike.ensures on)
          (subst (λ (l : Samples). Changes m l h.0 None) (sym shrunk) (changes_out m h.0 (in_order s.places.entries)));
    }
