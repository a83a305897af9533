use Rattle.std.proofs.Common.{◌≡◌, ℕ, ◌+◌, ◌∙◌, ◌||◌, not, ap, subst, arith}
use Rattle.dds_base.specs.Counts.{count_between}
use Rattle.dds_base.specs.Messages.{GapFor}
use Rattle.dds_base.specs.Sets.{has as has_number}
use Rattle.dds_base.proofs.CountLaws.{count_le, count_same}
use Rattle.dds_qos.specs.Reading.{gap_count}
use Rattle.dds_reader.specs.Ranges.{has, is_between}
use Rattle.dds_reader.proofs.GapLaws.{parts_count}
use Rattle.dds_reader.proofs.ranges.Ranges.mark_gap.Goals as goal

pub overflow_add-result : goal.overflow_add-result
overflow_add-result c =
    let copy = c.in_ok-next.next in
    omega (arith, c.in_ok-before.ensures.count, count_le (λ n. not (has copy.base copy.above n)) c.gap.inside.start c.base.result, c.base.ensures.high, c.in_ok-within.ensures.small)

pub returns-clause-count : goal.returns-clause-count
returns-clause-count c =
    let start : ℕ = c.gap.inside.start in
    let base : ℕ = c.gap.inside.set.base in
    let here : c.base.result ≡ base = c.base.ensures.base in
    let old = c.args.self.now in
    let copy = c.in_ok-next.next in
    let more = c.mark.new.self in
    let p = λ (n : ℕ). not (has old.base old.above n) in
    let q = λ (n : ℕ). not (has copy.base copy.above n) in
    let before : c.in_ok-before.before ≡ count_between p start base = c.in_ok-before.ensures.count ∙ ap (count_between q start) here ∙ count_same q p start base (λ n _ _. ap not (c.in_ok-next.ensures n)) in
    let grown = λ (n : ℕ). c.in_ok-before.ensures.marks n ∙ ap (λ u. has copy.base copy.above n || is_between start u n) here ∙ ap (λ b. b || is_between start base n) (c.in_ok-next.ensures n) in
    let whole = ap (λ x. x + c.in_ok-within.within) before ∙ ap (λ y. count_between p start base + y) c.in_ok-within.ensures.count
    ∙ parts_count start base (has_number c.gap.inside.set) (has old.base old.above) (has more.base more.above) c.gap.invariant.1 grown in
    subst (λ (g : GapFor). c.in_ok-before.before + c.in_ok-within.within ≡ gap_count (has old.base old.above) g) c.gap.view_is whole
