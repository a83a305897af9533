use Rattle.std.proofs.Common.{sym, ◌∙◌}
use Rattle.dds_conform.proofs.Passing.{at_none, beyond, entered, keeps_age, kept_alike}
use Rattle.dds_conform.proofs.windows.Window.step.Goals as goal

pub returns-clause-none : goal.returns-clause-none
returns-clause-none c =
    let adv = at_none c.too_late.result _ c.in_default.is c.too_late.ensures.none in
    entered c.args.plan.now c.args.entries.now c.args.times.now c.args.at c.too_late.new.self adv.window c.enter.new.self c.index-entries-at.result c.requires.at c.index-entries-at.is c.enter.ensures

pub returns-clause-kept : goal.returns-clause-kept
returns-clause-kept c =
    let adv = at_none c.too_late.result _ c.in_default.is c.too_late.ensures.none in
    let same = beyond c.index-entries-at.result c.too_late.new.self c.enter.new.self c.enter.ensures in
    kept_alike c.args.plan.now c.args.entries.now c.args.times.now c.args.at c.enter.new.self c.too_late.new.self (sym same.0, sym same.1, sym same.2)
    (at_none c.too_soon.result _ c.in_default-too_soon.is c.too_soon.ensures.none, keeps_age c.args.plan.now c.args.entries.now c.args.times.now c.args.at c.too_late.new.self adv c.requires.trace c.requires.at)
