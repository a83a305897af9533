-- The certificate that the rounds give: a row and a bound for each target, in order.
use Rattle.std.specs.Prelude.{ℕ, ◌≡◌, Bool, true, nat_lt, List, [], ◌∷◌, ◌++◌, length, Option, Some, None, is_none, if◌then◌else◌}
use Rattle.dds_match.specs.Network.{Network}
use Rattle.dds_weights.specs.Lists.{Certificate}
use Rattle.dds_weights.specs.declared.certificate.Bound.{Bound}
use Rattle.dds_weights.specs.declared.certificate.Total.{Total}
use Rattle.dds_runs.specs.Accepted.{Row}
use Rattle.dds_check.specs.Rows.{rows_no}
use Rattle.dds_propose.specs.declared.needs.Carrying.{Carrying}
use Rattle.dds_propose.specs.declared.proposer.Found.{Found}
use Rattle.dds_propose.specs.declared.targets.Target.{Target}
use Rattle.dds_propose.specs.declared.targets.Target.TheVariants.{Instance, Reader}
use Rattle.dds_propose.specs.Bounds.{bound}
use Rattle.dds_propose.specs.Listing.{listed}
use Rattle.dds_propose.specs.Relaxation.{IsRest, seen}
use Rattle.dds_propose.specs.Targets.{targets}

-- the bound of a key, which the row with this place shows
abbrev pub bound_entry : Target → ℕ → ℕ → List Bound
bound_entry (Instance r k) place n = record { reader = r; key = k; row = place; bound = n } ∷ []
bound_entry (Reader r) place n = []

-- the total of a reader, which the row with this place shows
abbrev pub total_entry : Target → ℕ → ℕ → List Total
total_entry (Instance r k) place n = []
total_entry (Reader r) place n = record { reader = r; row = place; bound = n } ∷ []

-- the certificate with one row more and what it shows
abbrev pub with_target : Network → Target → Row → ℕ → Certificate → Certificate
with_target net target row n cert = record {
  rows = cert.rows ++ listed net (length cert.rows) row ∷ [];
  bounds = cert.bounds ++ bound_entry target (length cert.rows) n;
  totals = cert.totals ++ total_entry target (length cert.rows) n;
}

-- no event raises the weighted sum of the row
abbrev pub is_invariant : Network → Row → Bool
is_invariant net row = is_none (rows_no net (listed net 0 row ∷ []))

-- a row at rest for the target that carries samples in this way, of which no event raises the sum, and the bound that it shows
pub record IsFound (net : Network) (target : Target) (carrying : Carrying) (row : Row) (number : ℕ) : Type 0 where
  pub rest : IsRest (seen carrying net) target row
  pub holds : is_invariant net row ≡ true
  pub shown : bound net target row ≡ Some number

-- such a row, that carries samples by caps or by permits
abbrev pub IsOneFound : Network → Target → Row → ℕ → Type 0
IsOneFound net target row number = (carrying : Carrying) × IsFound net target carrying row number

-- what shows the lesser bound, the first where they're the same
abbrev pub lesser : Option Found → Option Found → Option Found
lesser None y = y
lesser (Some x) None = Some x
lesser (Some x) (Some y) = if nat_lt y.bound x.bound then Some y else Some x

-- a row that is found and the bound that it shows are added to one certificate and give another
pub record AddsTarget (net : Network) (target : Target) (old new : Certificate) : Type 0 where
  pub row : Row
  pub number : ℕ
  pub found : IsOneFound net target row number
  pub added : new ≡ with_target net target row number old

-- the targets' rows and bounds are added to one certificate and give another
abbrev pub AddsTargets : Network → List Target → Certificate → Certificate → Type 0
AddsTargets net [] old new = new ≡ old
AddsTargets net (t ∷ ts) old new = (mid : Certificate) × AddsTarget net t old mid × AddsTargets net ts mid new

-- a certificate without rows
abbrev pub no_rows : Certificate
no_rows = record { rows = []; bounds = []; totals = [] }

-- for each target in order a row and the bound that it shows, and nothing else
abbrev pub IsProposal : Network → Certificate → Type 0
IsProposal net cert = AddsTargets net (targets net) no_rows cert
