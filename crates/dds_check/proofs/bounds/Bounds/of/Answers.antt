use Rattle.std.proofs.Common.{◌∙◌, Some, sym, ap}
use Rattle.dds_weights.specs.declared.certificate.Bound.{Bound}
use Rattle.dds_check.specs.Tables.{bound_of}
use Rattle.dds_check.proofs.BoundLaws.{bound_found, bound_missing}
use Rattle.dds_check.proofs.bounds.Bounds.of.Goals as goal

pub returns-in-Some : goal.returns-in-Some
returns-in-Some c =
    let xs = c.self.inside.entries.now in
    ap (λ (x : Bound). Some x.bound) (sym c.index-self-at.is)
    ∙ sym (bound_found c.number-r.result c.number-k.result c.if-r-lt-ENDPOINTS.true c.if-k-lt-KEYS-2.true xs c.in-Some.at c.index-self-at.result (sym c.place_of.ensures ∙ c.in-Some.is) c.index-self-at.is)
    ∙ ap (λ r. bound_of xs r c.number-k.result) c.number-r.ensures
    ∙ ap (λ k. bound_of xs c.args.reader k) c.number-k.ensures
    ∙ ap (λ ys. bound_of ys c.args.reader c.args.key) c.self.view_is

pub returns-in-None : goal.returns-in-None
returns-in-None c =
    let xs = c.self.inside.entries.now in
    sym (bound_missing c.number-r.result c.number-k.result c.if-r-lt-ENDPOINTS.true c.if-k-lt-KEYS-2.true xs (sym c.place_of.ensures ∙ c.in-None.is))
    ∙ ap (λ r. bound_of xs r c.number-k.result) c.number-r.ensures
    ∙ ap (λ k. bound_of xs c.args.reader k) c.number-k.ensures
    ∙ ap (λ ys. bound_of ys c.args.reader c.args.key) c.self.view_is
