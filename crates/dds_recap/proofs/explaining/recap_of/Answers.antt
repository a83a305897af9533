use Rattle.std.proofs.Common.{◌≡◌, ◌+◌, ◌<◌, ◌∙◌, ◌∷◌, List, ap, drop, length, subst, sym}
use Rattle.std.proofs.lemmas.List.{drop_all, drop_more}
use Rattle.dds_book.specs.declared.entry.Entry.{Entry}
use Rattle.dds_match.specs.Plan.{network_of}
use Rattle.dds_recap.proofs.Journeys.{Going, going_end, going_next, going_start}
use Rattle.dds_recap.proofs.explaining.recap_of.Goals as goal

pub loop-entry-init : goal.loop-entry-init
loop-entry-init c = going_start (network_of c.args.plan.now) c.args.entries.now c.new-recap.result (c.new-recap.ensures.follows (network_of c.args.plan.now)) c.new-recap.ensures.of_key c.new-recap.ensures.of_all
    c.new-recap.ensures.by_key c.new-recap.ensures.in_all c.requires.run

pub loop-entry-preserved : goal.loop-entry-preserved
loop-entry-preserved c =
    let i = c.loop-entry.entry-index in
    let es = c.args.entries.now in
    let within : i < length es = c.loop-entry-test.true in
    let next : drop i es ≡ c.entry-item.result ∷ drop (i + 1) es = drop_more es i c.entry-item.result within ∙ ap (λ (e : Entry). e ∷ drop (i + 1) es) (sym c.entry-item.is) in
    going_next (network_of c.args.plan.now) es c.entry-item.result (drop (i + 1) es) c.loop-entry.recap c.note.new.self
    (subst (λ (rest : List Entry). Going (network_of c.args.plan.now) es rest c.loop-entry.recap) next c.loop-entry.invariant) c.in_ok-note.ensures

pub returns : goal.returns
returns c =
    let net = network_of c.args.plan.now in
    let es = c.args.entries.now in
    let gone = going_end net es c.loop-entry.recap (subst (λ (rest : List Entry). Going net es rest c.loop-entry.recap) (drop_all c.loop-entry.entry-index es c.loop-entry-test.false) c.loop-entry.invariant) in
    record { follows = gone.follows; of_key = gone.of_key; of_all = gone.of_all }
