use Rattle.std.proofs.Common.{◌≡◌, ℕ, Bool, ◌+◌, ◌∙◌, ◌==◌, ◌&&◌, ◌||◌, cond, not, ltb, leb, ap, sym, inl, inr, arith}
use Rattle.std.proofs.lemmas.Bool.{and_left, both_ways, cases_lt}
use Rattle.dds_base.specs.Sets.{has as has_number}
use Rattle.dds_base.proofs.SetLaws.{has_past, has_within}
use Rattle.dds_base.proofs.CountLaws.{count_empty}
use Rattle.dds_reader.specs.Ranges.{has}
use Rattle.dds_reader.proofs.GapLaws.{from_base, none_before, count_step, lt_step, or_step, none_yet}
use Rattle.dds_reader.proofs.ranges.Ranges.mark_set.Goals as goal

pub loop-i-init : goal.loop-i-init
loop-i-init c =
    let old = c.args.self.now in
    let set = c.args.set.now in
    record {
      marks = λ m. none_before (has_number set) set.base m (has old.base old.above m) (λ e. and_left (leb set.base m) _ e);
      count = let e : set.base + 0 ≡ set.base = omega arith in rw e (omega (arith, count_empty (λ m. has_number set m && not (has old.base old.above m)) set.base));
      small = omega arith;
      numbers = λ m below has_m. absurd (omega (arith, below, from_base set m has_m));
    }

pub loop-i-preserved : goal.loop-i-preserved
loop-i-preserved c =
    let inv = c.loop-i.invariant in
    let old = c.args.self.now in
    let set = c.args.set.now in
    let new = c.loop-i.self in
    let n : ℕ = set.base + c.loop-i.i in
    let here : c.base-base.result + c.loop-i.i ≡ n = ap (λ b. b + c.loop-i.i) c.base-base.ensures.base in
    let next : set.base + (c.loop-i.i + 1) ≡ n + 1 = omega arith in
    record {
      marks = λ m. rw next
          (c.in_ok-count.ensures.marks m ∙ ap (λ x. has new.base new.above m || (has_number set m && (m == x))) here ∙ ap (λ b. b || (has_number set m && (m == n))) (inv.marks m)
          ∙ or_step (has old.base old.above m) (has_number set m && ltb m n) (has_number set m && (m == n)) (has_number set m && ltb m (n + 1)) (lt_step (has_number set) n m));
      count = rw next
          (ap (λ x. c.loop-i.count + x)
          (c.in_ok-count.ensures.count ∙ ap (λ x. cond (has_number set x && not (has new.base new.above x)) 1 0) here
          ∙ ap (λ (b : Bool). cond (has_number set n && not b) 1 0) (inv.marks n ∙ none_yet (has old.base old.above n) (has_number set) n))
          ∙ count_step (λ m. has_number set m && not (has old.base old.above m)) set.base n c.loop-i.count (omega arith) inv.count);
      small = omega (arith, inv.small, c.in_ok-count.ensures.one);
      numbers = λ m below has_m. elim (cases_lt m n) [
        | inl before ↦ inv.numbers m before has_m
        | inr past ↦
            let same : m ≡ c.base-base.result + c.loop-i.i = omega (arith, below, past, next, here) in
            let bound = c.in_ok-count.ensures.number (ap (has_number set) (sym same) ∙ has_m) in
            omega (arith, same, bound)
      ];
    }

pub returns-clause-marks : goal.returns-clause-marks
returns-clause-marks c = λ m. c.loop-i.invariant.marks m
    ∙ ap (λ b. has c.args.self.now.base c.args.self.now.above m || b) (has_within c.args.set.now m (c.args.set.now.base + c.loop-i.i) c.base-base.ensures.long (omega (arith, c.loop-i-test.false)))

pub returns-clause-numbers : goal.returns-clause-numbers
returns-clause-numbers c = λ m has_m.
    let set = c.args.set.now in (
      omega (arith, from_base set m has_m, c.base-base.ensures.base, c.base-base.ensures.low),
      elim (cases_lt m (set.base + c.loop-i.i)) [
        | inl before ↦ c.loop-i.invariant.numbers m before has_m
        | inr past ↦ absurd (both_ways _ (has_past set m c.base-base.ensures.long (omega (arith, past, c.loop-i-test.false))) has_m)
      ],
    )
