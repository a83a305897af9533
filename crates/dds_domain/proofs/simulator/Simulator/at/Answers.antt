use Rattle.std.proofs.Common.{◌∙◌, ap}
use Rattle.dds_domain.specs.Bus.{at_place}
use Rattle.dds_domain.specs.Standing.{PartsState}
use Rattle.dds_domain.specs.declared.simulator.Simulator.TheInside.{Inside}
use Rattle.dds_domain.proofs.simulator.Simulator.at.Goals as goal

pub returns : goal.returns
returns c = λ ms at.
    c.packet.ensures
    ∙ ap (λ (a : Inside). at_place a.parts.bus c.args.place) c.self-inside.view_is
    ∙ ap (λ (d : PartsState). at_place d.bus c.args.place) c.self.view_is
    ∙ at.world.bus.same c.args.place
