use Rattle.std.proofs.Common.{◌∙◌, ap, Some, length, option_map, subst, sym}
use Rattle.std.proofs.lemmas.Bool.{eq-eqb, eqb-true, true≢false}
use Rattle.std.specs.Str.Lines.{lines}
use Rattle.std.proofs.lemmas.Result.{IfOk-weaker}
use Rattle.dds_conform.specs.Stamps.{AreStamps}
use Rattle.dds_conform.proofs.Stamped.{are_times, err_weaker, fell, lacks_time, none_there, times_size, times_there}
use Rattle.dds_conform.proofs.stamps.read_times.Goals as goal

pub returns-then-are_none-clause-times : goal.returns-then-are_none-clause-times
returns-then-are_none-clause-times c = none_there (lines c.args.text.now) c.push_stamps.new.times.items c.in_ok-lacking.lacking c.in_ok-lacking.ensures (ap length (sym c.deref.ensures.value) ∙ eqb-true _ 0 (sym c.are_none.ensures ∙ c.if-are_none.true))

pub returns-in-Some-clause-fault : goal.returns-in-Some-clause-fault
returns-in-Some-clause-fault c =
    lacks_time (lines c.args.text.now) c.push_stamps.new.times.items c.in-Some.line (subst (AreStamps (lines c.args.text.now) (length (lines c.args.text.now)) c.push_stamps.new.times.items) c.in-Some.is c.in_ok-lacking.ensures)
    (λ none. true≢false (sym (eq-eqb _ 0 (ap length c.deref.ensures.value ∙ none)) ∙ (sym c.are_none.ensures ∙ c.if-are_none.false)))

pub checked-requires : goal.checked-requires
checked-requires c = times_size (lines c.args.text.now) c.push_stamps.new.times.items (length c.args.entries.now) (are_times (lines c.args.text.now) c.push_stamps.new.times.items c.in_ok-lacking.lacking c.in_ok-lacking.ensures c.in-None.is) c.requires

pub returns-in-None-clause-times : goal.returns-in-None-clause-times
returns-in-None-clause-times c =
    let are = are_times (lines c.args.text.now) c.push_stamps.new.times.items c.in_ok-lacking.lacking c.in_ok-lacking.ensures c.in-None.is in
    IfOk-weaker c.checked.result _ _ (λ ts h. times_there (lines c.args.text.now) c.push_stamps.new.times.items (option_map (λ v. v.items) ts) are h) c.checked.ensures.times

pub returns-in-None-clause-fault : goal.returns-in-None-clause-fault
returns-in-None-clause-fault c =
    let are = are_times (lines c.args.text.now) c.push_stamps.new.times.items c.in_ok-lacking.lacking c.in_ok-lacking.ensures c.in-None.is in
    err_weaker c.checked.result _ _ (λ f h. fell (lines c.args.text.now) c.args.entries.now c.push_stamps.new.times.items f are h) c.checked.ensures.fault
