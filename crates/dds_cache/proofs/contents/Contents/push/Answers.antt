use Rattle.std.proofs.Common.{◌≡◌, ◌∙◌, ◌+◌, ◌<◌, ◌^◌, ℕ, sym, ap, subst, arith, rules, Some, false}
use Rattle.std.specs.Prelude.{unwrap_or}
use Rattle.std.specs.Ordering.{nat_cmp}
use Rattle.std.specs.Map.{lookup, values_of}
use Rattle.std.specs.BTreeMap.{UpdatesBy, is_at}
use Rattle.std.specs.BTreeMap as tree
use Rattle.dds_qos.specs.Samples.{in_instance, is_same}
use Rattle.dds_qos.proofs.KeySets.{keys_more}
use Rattle.dds_cache.specs.Order.{Samples, TakesOut, held_at, place_of, samples_of}
use Rattle.dds_cache.specs.Queues.{IsApart}
use Rattle.dds_cache.proofs.PairLaws.{past_none}
use Rattle.dds_cache.proofs.PlaceLaws.{all_at, values_push}
use Rattle.dds_cache.proofs.QueueLaws.{apart_push, place_free}
use Rattle.dds_cache.proofs.CountLaws.{counted_few, counted_push}
use Rattle.dds_cache.proofs.TicketLaws.{Changes, back_out, changes_last}
use Rattle.dds_cache.proofs.contents.Contents.push.Goals as goal

pub push-requires : goal.push-requires
push-requires c =
    let s = c.args.self.now in
    let x = c.args.sample.now in
    place_free s.order.places x s.order.apart (all_at (λ y. is_same x y ≡ false) (samples_of s.order.places) c.requires)

pub count_up-requires : goal.count_up-requires
count_up-requires c =
    let s = c.args.self.now in
    let k = c.args.sample.now.key in
    let few = counted_few s.order.places k s.order.apart in
    let is = s.counted k in
    let long = c.len.ensures.len in
    let small = c.len.ensures.small in
    subst (λ (q : ℕ). unwrap_or (tree.get nat_cmp s.counts q) 0 < 2 ^ 63) (sym c.number.ensures) (omega (arith, few, is, long, small))

pub returns-in-Err-clause-samples_err : goal.returns-in-Err-clause-samples_err
returns-in-Err-clause-samples_err c =
    let s = c.args.self.now.order in
    let x = c.args.sample.now in
    let n = c.push.new.self in
    let o = samples_of c.remove.new.self.places in
    let none = past_none s.places s.next s.next s.below (omega arith) in
    let out : TakesOut (held_at n.places (place_of x)) (samples_of n.places) o = search rules in
    back_out (samples_of s.places) n.places o s.next x none (search rules) n.ordered out

pub invariant_of-self-in-Err : goal.invariant_of-self-in-Err
invariant_of-self-in-Err c =
    let s = c.args.self.now in
    let x = c.args.sample.now in
    let m = samples_of s.order.places in
    let n = c.push.new.self in
    let o = samples_of c.remove.new.self.places in
    let none = past_none s.order.places s.order.next s.order.next s.order.below (omega arith) in
    let out : TakesOut (held_at n.places (place_of x)) (samples_of n.places) o = search rules in
    let back = back_out m n.places o s.order.next x none (search rules) n.ordered out in
    let counts : c.count_up.new.counts.entries ≡ s.counts.entries = search rules in
    record {
      single = subst (λ (l : Samples). IsApart l) (sym back) s.single;
      counted = λ k.
          ap (λ es. unwrap_or (lookup (is_at (nat_cmp k)) es) 0) counts ∙ s.counted k
          ∙ ap (λ (l : Samples). in_instance k (values_of l)) (sym back);
    }

pub invariant_of-self-in_default : goal.invariant_of-self-in_default
invariant_of-self-in_default c =
    let s = c.args.self.now in
    let x = c.args.sample.now in
    let m = samples_of s.order.places in
    let n = samples_of c.push.new.self.places in
    let t = s.order.next in
    let counts = c.count_up.new.counts in
    let new = all_at (λ y. is_same x y ≡ false) m c.requires in
    let grown = c.in_ok-push.ensures.samples in
    let changes = subst (λ (l : Samples). Changes m l t (Some x)) (sym grown) (changes_last m t x (past_none s.order.places t t s.order.below (omega arith))) in
    let up : UpdatesBy nat_cmp (nat_cmp x.key) s.counts counts (Some (unwrap_or (tree.get nat_cmp s.counts x.key) 0 + 1)) = search rules in
    let counted = subst (λ (k : ℕ). UpdatesBy nat_cmp (nat_cmp x.key) s.counts counts (Some (k + 1))) (s.counted x.key) up in
    record {
      single = apart_push m n t x s.single new changes;
      counted = λ k.
          counted_push (values_of m) x s.counts counts s.counted counted k
          ∙ ap (λ xs. in_instance k xs) (sym (ap (λ es. values_of es) grown ∙ values_push m t x));
    }

pub returns-clause-keys : goal.returns-clause-keys
returns-clause-keys c =
    let s = c.args.self.now in
    let k = c.args.sample.now.key in
    keys_more s.counts c.count_up.new.counts k (unwrap_or (tree.get nat_cmp s.counts k) 0 + 1) (search rules)
