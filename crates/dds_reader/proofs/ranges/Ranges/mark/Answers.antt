use Rattle.std.proofs.Common.{◌≡◌, ◌∙◌, Some, arith, inl, inr}
use Rattle.dds_reader.specs.Ranges.{IsFree, at}
use Rattle.dds_reader.proofs.RangeLaws.{not_none}
use Rattle.dds_reader.proofs.HasLaws.{has_decides}
use Rattle.dds_reader.proofs.JoinLaws.{base_marks, base_count, sure, join_apart, join_marks, join_count, key_join, new_join, all_marked, same_marks, free_after, free_none}
use Rattle.dds_reader.proofs.ranges.Ranges.mark.Goals.{in-Some+else-until-start+else-from-start, in_default, then-until-from-via-then-until-from, then-until-from-via-else-until-from+then-until-self}
use Rattle.dds_reader.proofs.ranges.Ranges.mark.Goals as goal

pub returns-then-until-from-clause-count : goal.returns-then-until-from-clause-count
returns-then-until-from-clause-count c =
    let m = c.args.self.now in
    let one = c.requires in
    all_marked m.base c.args.from c.args.until m.above (λ x low lt. elim c.then-until-from.branch [
      | then-until-from-via-then-until-from w ↦ absurd (let t = w.if-until-from.true in omega (arith, low, lt, t))
      | then-until-from-via-else-until-from+then-until-self w ↦ (has_decides m.base m.above x m.apart.ordered).1 (inl (omega (arith, low, one), let t = w.if-until-self.true in omega (arith, lt, t)))
    ])

pub returns-then-from-self-clause-marks : goal.returns-then-from-self-clause-marks
returns-then-from-self-clause-marks c =
    let m = c.args.self.now in
    λ x. base_marks m.base c.args.until c.absorb-end.result.0 c.absorb-end.result.1 m.above c.absorb-end.new.ranges m.apart c.absorb-end.ensures c.args.from x c.requires m.low (omega arith) (omega arith)

pub returns-then-from-self-clause-count : goal.returns-then-from-self-clause-count
returns-then-from-self-clause-count c =
    let m = c.args.self.now in
    base_count m.base c.args.until c.absorb-end.result.0 c.absorb-end.result.1 m.above c.absorb-end.new.ranges m.apart c.absorb-end.ensures c.args.from c.requires (omega arith) (omega arith)

pub returns-then-until-start-clause-marks : goal.returns-then-until-start-clause-marks
returns-then-until-start-clause-marks c =
    let m = c.args.self.now in
    let f = c.in-Some.ensures in
    let up = f.upto in
    λ x. same_marks m.base c.args.from c.args.until x m.above m.apart.ordered
    (λ y low lt. (has_decides m.base m.above y m.apart.ordered).1 (inr (c.in-Some.key, c.in-Some.start, f.there, omega (arith, low, up), omega (arith, lt, c.if-until-start.true))))

pub returns-then-until-start-clause-count : goal.returns-then-until-start-clause-count
returns-then-until-start-clause-count c =
    let m = c.args.self.now in
    let f = c.in-Some.ensures in
    let up = f.upto in
    all_marked m.base c.args.from c.args.until m.above
    (λ y low lt. (has_decides m.base m.above y m.apart.ordered).1 (inr (c.in-Some.key, c.in-Some.start, f.there, omega (arith, low, up), omega (arith, lt, c.if-until-start.true))))

pub returns-then-from-start-clause-marks : goal.returns-then-from-start-clause-marks
returns-then-from-start-clause-marks c =
    let m = c.args.self.now in
    let f = c.in-Some.ensures in
    let a = c.absorb-end-then-from-start in
    let join = key_join m.base c.args.from c.args.until c.in-Some.key c.in-Some.start a.result.0 a.result.1 m.above a.new.ranges c.insert.new.self m.apart f.there f.upto c.if-from-start.true (omega arith) (omega arith) a.ensures c.in_ok-insert.ensures.updates c.insert.ensures.ordered in
    λ x. join_marks m.base c.args.from c.args.until c.in-Some.key c.in-Some.start a.result.0 a.result.1 m.above c.insert.new.self m.apart join x

pub returns-then-from-start-clause-count : goal.returns-then-from-start-clause-count
returns-then-from-start-clause-count c =
    let m = c.args.self.now in
    let f = c.in-Some.ensures in
    let a = c.absorb-end-then-from-start in
    let join = key_join m.base c.args.from c.args.until c.in-Some.key c.in-Some.start a.result.0 a.result.1 m.above a.new.ranges c.insert.new.self m.apart f.there f.upto c.if-from-start.true (omega arith) (omega arith) a.ensures c.in_ok-insert.ensures.updates c.insert.ensures.ordered in
    join_count m.base c.args.from c.args.until c.in-Some.key c.in-Some.start a.result.0 a.result.1 m.above c.insert.new.self m.apart join

pub returns-clause-marks : goal.returns-clause-marks
returns-clause-marks c =
    let m = c.args.self.now in
    let a = c.absorb-end-2 in
    let free : IsFree m.above c.args.from = elim c.match-last_up_to.branch [
      | in-Some+else-until-start+else-from-start w ↦ free_after m.base c.args.from w.in-Some.key w.in-Some.start m.above m.apart w.in-Some.ensures w.if-from-start.false
      | in_default w ↦ free_none c.args.from m.above w.in_default.ensures
    ] in
    let join = new_join m.base c.args.from c.args.until a.result.0 a.result.1 m.above c.insert-2.new.self a.new.ranges c.insert-3.new.self m.apart (omega arith) (omega arith) free.0 free.1 c.in_ok-insert-2.ensures.updates a.ensures c.in_ok-insert-3.ensures.updates c.insert-3.ensures.ordered in
    λ x. join_marks m.base c.args.from c.args.until c.args.from c.args.from a.result.0 a.result.1 m.above c.insert-3.new.self m.apart join x

pub returns-clause-count : goal.returns-clause-count
returns-clause-count c =
    let m = c.args.self.now in
    let a = c.absorb-end-2 in
    let free : IsFree m.above c.args.from = elim c.match-last_up_to.branch [
      | in-Some+else-until-start+else-from-start w ↦ free_after m.base c.args.from w.in-Some.key w.in-Some.start m.above m.apart w.in-Some.ensures w.if-from-start.false
      | in_default w ↦ free_none c.args.from m.above w.in_default.ensures
    ] in
    let join = new_join m.base c.args.from c.args.until a.result.0 a.result.1 m.above c.insert-2.new.self a.new.ranges c.insert-3.new.self m.apart (omega arith) (omega arith) free.0 free.1 c.in_ok-insert-2.ensures.updates a.ensures c.in_ok-insert-3.ensures.updates c.insert-3.ensures.ordered in
    join_count m.base c.args.from c.args.until c.args.from c.args.from a.result.0 a.result.1 m.above c.insert-3.new.self m.apart join

pub invariant_of-self-2 : goal.invariant_of-self-2
invariant_of-self-2 c =
    let m = c.args.self.now in
    let from = c.args.from in
    let a = c.absorb-end-2 in
    let free : IsFree m.above from = elim c.match-last_up_to.branch [
      | in-Some+else-until-start+else-from-start w ↦ free_after m.base from w.in-Some.key w.in-Some.start m.above m.apart w.in-Some.ensures w.if-from-start.false
      | in_default w ↦ free_none from m.above w.in_default.ensures
    ] in
    let there : at a.new.ranges from ≡ Some c.args.until = a.ensures.left.kept from (omega arith) ∙ c.in_ok-insert-2.ensures.updates.1 in
    let u = sure c.insert-3.result _ _ c.insert-3.ensures.updates c.insert-3.ensures.absent (λ none. not_none there none) in
    record {
      low = m.low;
      apart = join_apart m.base from c.args.until from from a.result.0 a.result.1 m.above c.insert-3.new.self m.apart
          (new_join m.base from c.args.until a.result.0 a.result.1 m.above c.insert-2.new.self a.new.ranges c.insert-3.new.self m.apart (omega arith) (omega arith) free.0 free.1 c.in_ok-insert-2.ensures.updates a.ensures u c.insert-3.ensures.ordered);
    }
