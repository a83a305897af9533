use Rattle.std.proofs.Common.{◌∙◌, ap}
use Rattle.dds_domain.specs.Bus.{at_place}
use Rattle.dds_domain.specs.Standing.{DomainState}
use Rattle.dds_domain.specs.declared.domain.Domain.TheInside.{Inside}
use Rattle.dds_domain.proofs.Shown.{at_world}
use Rattle.dds_domain.proofs.domain.Domain.at.Goals as goal

pub returns-clause-world : goal.returns-clause-world
returns-clause-world c = λ v at.
    c.packet.ensures
    ∙ ap (λ (a : Inside). at_place a.parts.bus c.args.place) c.self-inside.view_is
    ∙ ap (λ (d : DomainState). at_place d.bus c.args.place) c.self.view_is
    ∙ at.1.bus.same c.args.place

pub returns-clause-noted : goal.returns-clause-noted
returns-clause-noted c = λ v noted at. returns-clause-world c v (at_world at)
