use Rattle.std.proofs.Common.{◌≡◌, ◌∙◌, ◌-◌, ℕ, arith, sym, ap, subst, rules, Some, None}
use Rattle.std.specs.Prelude.{unwrap_or, is_some, IsSome, option_map}
use Rattle.std.specs.Ordering.{nat_cmp}
use Rattle.std.specs.BTreeMap as tree
use Rattle.std.specs.Map.{values_of}
use Rattle.std.specs.BTreeMap.{UpdatesBy}
use Rattle.dds_qos.specs.Samples.{in_instance}
use Rattle.dds_cache.specs.Order.{Held, Samples, held_at, sample_of, samples_of}
use Rattle.dds_cache.proofs.QueueLaws.{apart_remove}
use Rattle.dds_cache.proofs.CountLaws.{counted_one, counted_remove}
use Rattle.dds_cache.proofs.TicketLaws.{Changes, changes_out, in_order, taken_out}
use Rattle.dds_cache.proofs.contents.Contents.remove.Goals as goal

pub overflow_sub-count : goal.overflow_sub-count
overflow_sub-count c =
    let s = c.args.self.now in
    let p = c.args.place in
    let x = c.in_ok-sample.sample in
    let is : option_map (λ (h : Held). sample_of p h.1) (held_at s.order.places p) ≡ Some x = search rules in
    let t = taken_out s.order.places p (samples_of c.remove.new.self.places) x s.order.apart is c.remove.ensures.samples in
    let got : tree.get nat_cmp s.counts x.key ≡ Some c.in-Some.count.now = search rules in
    let number : c.in-Some.count.now ≡ in_instance x.key (values_of (samples_of s.order.places)) = sym (ap (λ o. unwrap_or o 0) got) ∙ s.counted x.key in
    let one = counted_one (samples_of s.order.places) t.held.0 x t.ticket in
    omega (arith, number, one)

pub invariant_of-self-in-Some : goal.invariant_of-self-in-Some
invariant_of-self-in-Some c =
    let s = c.args.self.now in
    let p = c.args.place in
    let x = c.in_ok-sample.sample in
    let m = samples_of s.order.places in
    let n = samples_of c.remove.new.self.places in
    let fewer = c.in-Some.count.now - 1 in
    let counts = c.get_mut.follows.lender fewer in
    let is : option_map (λ (h : Held). sample_of p h.1) (held_at s.order.places p) ≡ Some x = search rules in
    let t = taken_out s.order.places p n x s.order.apart is c.remove.ensures.samples in
    let changes = subst (λ (l : Samples). Changes m l t.held.0 None) (sym t.out) (changes_out m t.held.0 (in_order s.order.places.entries)) in
    let got : tree.get nat_cmp s.counts x.key ≡ Some c.in-Some.count.now = search rules in
    let number : c.in-Some.count.now ≡ in_instance x.key (values_of m) = sym (ap (λ o. unwrap_or o 0) got) ∙ s.counted x.key in
    let written : UpdatesBy nat_cmp (nat_cmp x.key) s.counts counts (Some fewer) =
    subst (λ (k : ℕ). IsSome (tree.get nat_cmp s.counts k) → UpdatesBy nat_cmp (nat_cmp k) s.counts counts (Some fewer))
    c.number.ensures (c.get_mut.follows.holds fewer).3 (ap is_some got) in
    let counted : UpdatesBy nat_cmp (nat_cmp x.key) s.counts counts (Some (in_instance x.key (values_of m) - 1)) =
    subst (λ (k : ℕ). UpdatesBy nat_cmp (nat_cmp x.key) s.counts counts (Some (k - 1))) number written in
    record {
      single = apart_remove m n t.held.0 s.single changes;
      counted = λ k.
          counted_remove m t.held.0 x s.counts counts t.ticket s.counted counted k
          ∙ ap (λ (l : Samples). in_instance k (values_of l)) (sym t.out);
    }

pub invariant_of-self-in_default : goal.invariant_of-self-in_default
invariant_of-self-in_default c =
    let s = c.args.self.now in
    let p = c.args.place in
    let x = c.in_ok-sample.sample in
    let m = samples_of s.order.places in
    let is : option_map (λ (h : Held). sample_of p h.1) (held_at s.order.places p) ≡ Some x = search rules in
    let t = taken_out s.order.places p (samples_of c.remove.new.self.places) x s.order.apart is c.remove.ensures.samples in
    let got : tree.get nat_cmp s.counts x.key ≡ None = search rules in
    let number : 0 ≡ in_instance x.key (values_of m) = sym (ap (λ o. unwrap_or o 0) got) ∙ s.counted x.key in
    let one = counted_one m t.held.0 x t.ticket in
    absurd (omega (arith, number, one))
