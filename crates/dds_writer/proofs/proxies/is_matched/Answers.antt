use Rattle.std.proofs.Common.{ℕ, ◌∙◌, ap, position}
use Rattle.std.specs.Prelude.{is_some}
use Rattle.dds_base.proofs.NumberedLaws.{is_some-position}
use Rattle.dds_writer.specs.Proxies.{is_of}
use Rattle.dds_writer.proofs.proxies.is_matched.Goals as goal

pub returns : goal.returns
returns c =
    c.is_some.ensures ∙ ap is_some (c.place_of.ensures ∙ ap (λ (r : ℕ). position (is_of r) c.args.proxies.now) c.number.ensures) ∙ is_some-position (is_of c.args.reader) c.args.proxies.now
