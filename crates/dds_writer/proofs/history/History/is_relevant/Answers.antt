use Rattle.std.proofs.Common.{ap, ◌∙◌}
use Rattle.std.specs.Prelude.{is_some}
use Rattle.dds_base.proofs.NumberedLaws.{is_some-position}
use Rattle.dds_writer.specs.History.{is_found}
use Rattle.dds_writer.proofs.history.History.is_relevant.Goals as goal

pub returns : goal.returns
returns c = c.is_some.ensures ∙ ap is_some c.place_of.ensures ∙ is_some-position (is_found c.args.me c.args.sn c.args.proxy.now) c.args.self.now.kept.items
