use Rattle.std.proofs.Common.{◌≡◌, ◌∙◌, sym, ap, subst, rules, true, ◌++◌, ◌∷◌, [], Some, Option}
use Rattle.std.specs.Ordering.{nat_cmp}
use Rattle.std.specs.Map.{values_of, remove_entry}
use Rattle.std.specs.BTreeMap.{is_at}
use Rattle.std.proofs.lemmas.Bool.{cond-true}
use Rattle.dds_cache.specs.Order.{Held, TakesOut, at, held_at, sample_of, samples_of}
use Rattle.dds_cache.proofs.PlaceLaws.{stored_over, not_popped, values_push, at_append}
use Rattle.dds_cache.proofs.TicketLaws.{in_order, found_at, stands_at}
use Rattle.dds_cache.proofs.contents.Contents.store.Goals as goal

pub returns-in-Some-clause-stored : goal.returns-in-Some-clause-stored
returns-in-Some-clause-stored c =
    let s = c.args.self.now.order in
    let n = c.push-2.new.self.order in
    let m = samples_of s.places in
    let v = c.args.sample.now in
    let p = c.in-Some.place in
    let f = c.in-Some.ensures in
    let t = f.held.0 in
    let x = sample_of p f.held.1 in
    let on : c.args.overwrites ≡ true = search rules in
    let came = c.in_ok-push.ensures.samples in
    let stays = ap (λ l. at l t) came ∙ at_append m t s.next v x (found_at s.places.entries p f.held s.apart f.there) in
    let there : held_at n.places p ≡ Some f.held = stands_at n.places.entries t x n.ordered stays in
    let out = subst (λ (o : Option Held). TakesOut o (samples_of n.places) (samples_of c.remove.new.self.order.places)) there c.remove.ensures.samples in
    ap (λ es. values_of es) (out ∙ ap (λ es. remove_entry (is_at (nat_cmp t)) es) came)
    ∙ stored_over m v.key t s.next v (in_order s.places.entries) f.first
    ∙ ap (λ l. l ++ v ∷ []) (sym (cond-true c.args.overwrites _ _ on))

pub returns-in_default-clause-stored : goal.returns-in_default-clause-stored
returns-in_default-clause-stored c =
    let s = c.args.self.now.order in
    let m = samples_of s.places in
    let v = c.args.sample.now in
    let on : c.args.overwrites ≡ true = search rules in
    ap (λ es. values_of es) c.in_ok-push.ensures.samples ∙ values_push m s.next v
    ∙ ap (λ l. l ++ v ∷ []) (not_popped m v.key (in_order s.places.entries) c.in_default.ensures ∙ sym (cond-true c.args.overwrites _ _ on))
