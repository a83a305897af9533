-- Tables of no bounds and of no totals.
use Rattle.std.proofs.Common.{ℕ, ◌≡◌, List, ap, arith, length, replicate, drop, sym, ◌∙◌, None}
use Rattle.std.proofs.lemmas.List.{get_or-replicate, length-replicate, drop_all}
use Rattle.dds_weights.specs.declared.certificate.Bound.{Bound}
use Rattle.dds_weights.specs.declared.certificate.Total.{Total}
use Rattle.dds_check.specs.Tables.{bound_of, total_of, ShowsBounds, ShowsTotals}

pub no_bounds : (r n : ℕ) (entries : List Bound) → n ≡ 64 → ShowsBounds r (replicate n None) (drop (length entries) entries)
no_bounds r n entries same = record {
  len = length-replicate n None ∙ same;
  shown = λ k hk. get_or-replicate n k None None (omega arith) ∙ sym (ap (λ xs. bound_of xs r k) (drop_all (length entries) entries (omega arith)));
}

pub no_totals : (n : ℕ) (entries : List Total) → n ≡ 256 → ShowsTotals (replicate n None) (drop (length entries) entries)
no_totals n entries same = record {
  len = length-replicate n None ∙ same;
  shown = λ r hr. get_or-replicate n r None None (omega arith) ∙ sym (ap (λ xs. total_of xs r) (drop_all (length entries) entries (omega arith)));
}
