-- The lesser of two.
use Rattle.std.proofs.Common.{◌≡◌, Bool, true, false, if◌then◌else◌, Option, Some, None, IfSome, nat_lt}
use Rattle.dds_propose.specs.declared.proposer.Found.{Found}
use Rattle.dds_propose.specs.Proposal.{lesser}

-- what holds of both holds of it
pub lesser_one : (x y : Option Found) (P : Found → Type 0) → IfSome x P → IfSome y P → IfSome (lesser x y) P
lesser_one None y P p q = q
lesser_one (Some x) None P p q = p
lesser_one (Some x) (Some y) P p q = go (nat_lt y.bound x.bound)
  where
    go : (b : Bool) → IfSome (if b then Some y else Some x) P
    go true = q
    go false = p
