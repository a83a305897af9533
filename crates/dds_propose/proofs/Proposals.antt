-- A certificate that grows target by target.
use Rattle.std.proofs.Common.{ℕ, ◌≡◌, ◌+◌, ◌<◌, ◌≤◌, List, [], ◌∷◌, ◌++◌, map, length, get_or, drop, refl, sym, ap, ◌∙◌, subst}
use Rattle.std.proofs.lemmas.List.{map_push, length-map, drop_more, drop_all}
use Rattle.dds_match.specs.Network.{Network}
use Rattle.dds_weights.specs.Lists.{Certificate}
use Rattle.dds_weights.specs.declared.certificate.Bound.{Bound}
use Rattle.dds_weights.specs.declared.certificate.Total.{Total}
use Rattle.dds_weights.specs.declared.certificate.Row.{Row as CodeRow}
use Rattle.dds_weights.specs.Views.{row_view}
use Rattle.dds_runs.specs.Accepted.{Row}
use Rattle.dds_propose.specs.declared.targets.Target.{Target}
use Rattle.dds_propose.specs.Proposal.{AddsTarget, AddsTargets, bound_entry, no_rows, total_entry, with_target}
use Rattle.dds_propose.specs.Listing.{listed}

-- the targets from i on lead to a proposal
abbrev pub LeadsOn : Network → List Target → ℕ → Certificate → Type 0
LeadsOn net ts i now = (cert : Certificate) → AddsTargets net (drop i ts) now cert → AddsTargets net ts no_rows cert

pub leads_first : (net : Network) (ts : List Target) (rows : List CodeRow) (bounds : List Bound) (totals : List Total) → rows ≡ [] → bounds ≡ [] → totals ≡ []
    → LeadsOn net ts 0 (record { rows = map row_view rows; bounds = bounds; totals = totals })
leads_first net ts rows bounds totals r b s cert adds =
    let empty : (let now : Certificate = record { rows = map row_view rows; bounds = bounds; totals = totals } in now) ≡ no_rows = rw (r, b, s) refl in
    subst (λ now. AddsTargets net ts now cert) empty adds

pub leads_next : (net : Network) (ts : List Target) (i : ℕ) (t : Target) (now next : Certificate) → i < length ts → t ≡ get_or ts i t → LeadsOn net ts i now → AddsTarget net t now next → LeadsOn net ts (i + 1) next
leads_next net ts i t now next within here leads added cert adds =
    let split : drop i ts ≡ t ∷ drop (i + 1) ts = drop_more ts i t within ∙ ap (λ x. x ∷ drop (i + 1) ts) (sym here) in
    leads cert (subst (λ xs. AddsTargets net xs now cert) (sym split) (next, added, adds))

pub leads_last : (net : Network) (ts : List Target) (i : ℕ) (now : Certificate) → length ts ≤ i → LeadsOn net ts i now → AddsTargets net ts no_rows now
leads_last net ts i now past leads = leads now (subst (λ xs. AddsTargets net xs now now) (sym (drop_all i ts past)) refl)

-- the lists of the code with one row more
pub with_row : (net : Network) (t : Target) (row : Row) (n place : ℕ) (rows new : List CodeRow) (x : CodeRow) (bounds more : List Bound) (totals most : List Total)
    → place ≡ length rows → new ≡ rows ++ x ∷ [] → row_view x ≡ listed net place row → more ≡ bounds ++ bound_entry t place n → most ≡ totals ++ total_entry t place n
    → (let cert : Certificate = record { rows = map row_view new; bounds = more; totals = most } in cert) ≡ with_target net t row n (record { rows = map row_view rows; bounds = bounds; totals = totals })
with_row net t row n place rows new x bounds more totals most at pushed view b s =
    let count : length (map row_view rows) ≡ place = length-map rows row_view ∙ sym at in
    let all : map row_view new ≡ map row_view rows ++ listed net place row ∷ [] = ap (map row_view) pushed ∙ (map_push row_view rows x ∙ ap (λ y. map row_view rows ++ y ∷ []) view) in
    rw count (rw (all, b, s) refl)
