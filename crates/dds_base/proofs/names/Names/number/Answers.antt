use Rattle.std.proofs.Common.{sym, ap, ◌∙◌, string_bytes}
use Rattle.std.specs.Str.{bytes_eq}
use Rattle.dds_base.specs.Names.{number_of}
use Rattle.dds_base.proofs.Places.{position-map}
use Rattle.dds_base.proofs.names.Names.number.Goals as goal

pub returns-clause-value : goal.returns-clause-value
returns-clause-value c = c.get_index_of.ensures.index ∙ sym (position-map (bytes_eq c.args.name.now) string_bytes c.self.inside.set.keys) ∙ ap (λ ns. number_of ns c.args.name.now) c.self.view_is
