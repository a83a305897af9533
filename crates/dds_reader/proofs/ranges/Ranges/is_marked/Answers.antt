use Rattle.std.proofs.Common.{sym, ap, ◌∙◌, arith, inl, inr}
use Rattle.std.proofs.lemmas.Bool.{leb-true, le-leb, false_from_ne_true, cases_eq}
use Rattle.std.proofs.lemmas.Bool.Decides.{Decides-like, Decides-ltb, same_from_decides}
use Rattle.dds_reader.specs.Ranges.{at}
use Rattle.dds_reader.proofs.HasLaws.{has_decides}
use Rattle.dds_reader.proofs.RangeLaws.{not_none, some_is, is_some_at}
use Rattle.dds_reader.proofs.ranges.Ranges.is_marked.Goals as goal

pub returns-then-n-self : goal.returns-then-n-self
returns-then-n-self c =
    let m = c.args.self.now in
    same_from_decides _ _ (leb-true 1 c.args.n, le-leb 1 c.args.n)
    (Decides-like _
    (λ marked. elim marked [
      | inl low ↦ low.0
      | inr h ↦ let each = (m.apart.each h.0 h.1 h.2).0 in let low = m.low in let le = h.3 in omega (arith, each, low, le)
    ])
    (λ low. inl (low, omega arith))
    (has_decides m.base m.above c.args.n m.apart.ordered))

pub returns-in-Some : goal.returns-in-Some
returns-in-Some c =
    let m = c.args.self.now in
    let f = c.in-Some.ensures in
    same_from_decides _ _ (Decides-ltb c.args.n c.in-Some.end)
    (Decides-like _
    (λ marked. elim marked [
      | inl low ↦ absurd (omega (arith, low.1))
      | inr h ↦ elim (cases_eq h.0 c.in-Some.field-0-0) [
        | inl same ↦ let e = some_is (ap (λ s. at m.above s) (sym same) ∙ h.2) f.there in let lt = h.4 in omega (arith, e, lt)
        | inr ne ↦
            let before = f.last h.0 h.3 (is_some_at h.2) in
            let past = m.apart.apart h.0 h.1 c.in-Some.field-0-0 c.in-Some.end h.2 f.there (omega (arith, ne, before)) in
            let lt = h.4 in let le = f.upto in absurd (omega (arith, past, lt, le))
      ]
    ])
    (λ lt. inr (c.in-Some.field-0-0, c.in-Some.end, f.there, f.upto, lt))
    (has_decides m.base m.above c.args.n m.apart.ordered))

pub returns-in-None : goal.returns-in-None
returns-in-None c =
    let m = c.args.self.now in
    sym (false_from_ne_true _ (λ e. elim ((has_decides m.base m.above c.args.n m.apart.ordered).0 e) [
      | inl low ↦ omega (arith, low.1)
      | inr h ↦ not_none h.2 (c.in-None.ensures h.0 h.3)
    ]))
