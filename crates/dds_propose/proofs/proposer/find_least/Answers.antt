use Rattle.std.proofs.Common.{sym, subst, Option, IfSome}
use Rattle.std.proofs.lemmas.Option.{IfSome_then}
use Rattle.dds_match.specs.Plan.{network_of}
use Rattle.dds_propose.specs.declared.needs.Carrying.{Carrying}
use Rattle.dds_propose.specs.declared.needs.Carrying.TheVariants.{ByCaps, ByPermits}
use Rattle.dds_propose.specs.declared.proposer.Found.{Found}
use Rattle.dds_propose.specs.Proposal.{IsFound, IsOneFound}
use Rattle.dds_propose.specs.Tables.{row_of}
use Rattle.dds_propose.proofs.Lesser.{lesser_one}
use Rattle.dds_propose.proofs.proposer.find_least.Goals as goal

pub returns : goal.returns
returns c =
    let By : Carrying → Found → Type 0 = λ how x. IsFound (network_of c.args.plan.now) c.args.target.now how (row_of x.weights) x.bound in
    let One : Found → Type 0 = λ x. IsOneFound (network_of c.args.plan.now) c.args.target.now (row_of x.weights) x.bound in
    let permits : IfSome c.in_ok-by_permits.by_permits One = IfSome_then _ {P = By ByPermits} {Q = One} c.in_ok-by_permits.ensures (λ x found. (ByPermits, found)) in
    let caps : IfSome c.in_ok-by_caps.by_caps One = IfSome_then _ {P = By ByCaps} {Q = One} c.in_ok-by_caps.ensures (λ x found. (ByCaps, found)) in
    subst (λ (o : Option Found). IfSome o One) (sym c.lesser.ensures) (lesser_one _ _ One permits caps)
