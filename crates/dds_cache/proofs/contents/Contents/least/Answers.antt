use Rattle.std.proofs.Common.{◌≡◌, ◌+◌, ◌||◌, ◌==◌, ◌∙◌, ap, sym, subst, ℕ, take, Option}
use Rattle.std.proofs.lemmas.List.Folds.{list_any_more}
use Rattle.dds_cache.specs.declared.released.Released.{Released}
use Rattle.dds_cache.specs.Released.{released_of, is_listed}
use Rattle.dds_cache.specs.Order.{Place}
use Rattle.dds_cache.specs.Queues.{IsFirstQueued}
use Rattle.dds_cache.specs.Least.{IsBest}
use Rattle.dds_cache.proofs.LeastLaws.{best_more, best_some, best_nowhere}
use Rattle.dds_cache.proofs.contents.Contents.least.Goals as goal

pub loop-listed-preserved : goal.loop-listed-preserved
loop-listed-preserved c =
    let m = c.args.self.now.order.places in
    let ws = c.args.writers.now in
    let i = c.loop-listed.listed-index in
    let r = c.listed-item.result in
    let found = c.first_queued-found.result in
    let within = c.loop-listed-test.true in
    let own : r.upto ≡ released_of r.writer ws =
    subst (λ (a : Released). a.upto ≡ released_of a.writer ws) (sym c.listed-item.is) (c.requires.uniform i r within) in
    let of_writer = subst (λ (w : ℕ). IsFirstQueued m c.number.result w r.upto found) c.number-in-loop-listed.ensures c.first_queued-found.ensures in
    let first = subst (λ (k : ℕ). IsFirstQueued m k r.writer r.upto found) c.number.ensures of_writer in
    best_more m ws (take i ws) (take (i + 1) ws) c.args.key r c.loop-listed.best found c.lesser-best.result
    own first c.loop-listed.invariant c.lesser-best.ensures
    (λ w.
    list_any_more (λ a. a.writer == w) ws i r within
    ∙ ap (λ (a : Released). is_listed w (take i ws) || (a.writer == w)) (sym c.listed-item.is))

pub returns-in-Some : goal.returns-in-Some
returns-in-Some c =
    let s = c.args.self.now.order in
    let ws = c.args.writers.now in
    let i = c.loop-listed.listed-index in
    best_some s.places ws c.args.key i c.in-Some.found s.apart c.loop-listed-test.false c.requires.listed
    (subst (λ (o : Option (Place × ℕ)). IsBest s.places ws c.args.key (take i ws) o) c.in-Some.is c.loop-listed.invariant)

pub returns-in-None : goal.returns-in-None
returns-in-None c =
    let s = c.args.self.now.order in
    let ws = c.args.writers.now in
    let i = c.loop-listed.listed-index in
    best_nowhere s.places ws c.args.key i s.apart c.loop-listed-test.false c.requires.listed
    (subst (λ (o : Option (Place × ℕ)). IsBest s.places ws c.args.key (take i ws) o) c.in-None.is c.loop-listed.invariant)
