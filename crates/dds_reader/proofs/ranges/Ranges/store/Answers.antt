use Rattle.std.proofs.Common.{◌≡◌, ◌∙◌, ◌+◌, ap, arith, Some}
use Rattle.std.specs.Ordering.{nat_cmp}
use Rattle.std.specs.Map.{remove_entry}
use Rattle.std.specs.BTreeMap.{is_at}
use Rattle.dds_reader.specs.Ranges.{at}
use Rattle.dds_reader.proofs.RangeLaws.{undone, not_none}
use Rattle.dds_reader.proofs.JoinLaws.{free_alone, sure, new_join, join_apart, join_marks}
use Rattle.dds_reader.proofs.ranges.Ranges.store.Goals as goal

pub returns-in_default-clause-err_above : goal.returns-in_default-clause-err_above
returns-in_default-clause-err_above c =
    let m = c.args.self.now in
    let t = c.touches.ensures.free c.if-touches.false in
    let free = free_alone m.base c.args.from c.args.sample.now.sn m.above m.apart c.requires.alone t.0 c.requires.unmarked t.1 in
    c.remove.ensures.entries ∙ ap (λ es. remove_entry (is_at (nat_cmp c.args.from)) es) c.in_ok-insert.ensures.entries ∙ undone m.above.entries c.args.from (c.args.sample.now.sn + 1) free.1.0

pub invariant_of-self-2 : goal.invariant_of-self-2
invariant_of-self-2 c =
    let m = c.args.self.now in
    let from = c.args.from in
    let until = c.args.sample.now.sn + 1 in
    let t = c.touches.ensures.free c.if-touches.false in
    let free = free_alone m.base from c.args.sample.now.sn m.above m.apart c.requires.alone t.0 c.requires.unmarked t.1 in
    let u1 = c.in_ok-insert.ensures.updates in
    let a = c.absorb-end in
    let there : at a.new.ranges from ≡ Some until = a.ensures.left.kept from (omega arith) ∙ u1.1 in
    let u = sure c.insert-2.result _ _ c.insert-2.ensures.updates c.insert-2.ensures.absent (λ none. not_none there none) in
    record {
      low = m.low;
      apart = join_apart m.base from until from from a.result.0 a.result.1 m.above c.insert-2.new.self m.apart
          (new_join m.base from until a.result.0 a.result.1 m.above c.insert.new.self a.new.ranges c.insert-2.new.self m.apart t.0 (omega (arith, free.0)) free.1.0 free.1.1 u1 a.ensures u c.insert-2.ensures.ordered);
    }

pub returns-clause-marks : goal.returns-clause-marks
returns-clause-marks c =
    let m = c.args.self.now in
    let from = c.args.from in
    let until = c.args.sample.now.sn + 1 in
    let t = c.touches.ensures.free c.if-touches.false in
    let free = free_alone m.base from c.args.sample.now.sn m.above m.apart c.requires.alone t.0 c.requires.unmarked t.1 in
    let a = c.absorb-end in
    λ x. join_marks m.base from until from from a.result.0 a.result.1 m.above c.insert-2.new.self m.apart
    (new_join m.base from until a.result.0 a.result.1 m.above c.insert.new.self a.new.ranges c.insert-2.new.self m.apart t.0 (omega (arith, free.0)) free.1.0 free.1.1 c.in_ok-insert.ensures.updates a.ensures c.in_ok-insert-2.ensures.updates c.insert-2.ensures.ordered) x
