use Rattle.std.proofs.Common.{◌<◌, length, IfSome, position, string_bytes, sym, ap, ◌∙◌, subst}
use Rattle.std.specs.Str.{bytes_eq}
use Rattle.std.proofs.lemmas.List.{length-map}
use Rattle.dds_base.specs.Names.{number_of}
use Rattle.dds_base.proofs.Places.{position-map}
use Rattle.dds_guard.proofs.texts.Texts.number.Goals as goal

pub returns-clause-value : goal.returns-clause-value
returns-clause-value c = c.place_of.ensures.value ∙ ap (position (λ t. bytes_eq c.args.name.now (string_bytes t))) c.deref.ensures.value
    ∙ sym (position-map (bytes_eq c.args.name.now) string_bytes c.self.inside.texts.items) ∙ ap (λ ns. number_of ns c.args.name.now) c.self.view_is

pub returns-clause-within : goal.returns-clause-within
returns-clause-within c = subst (λ ns. IfSome c.place_of.result (λ n. n < length ns)) c.self.view_is
    (subst (λ m. IfSome c.place_of.result (λ n. n < m)) (ap length c.deref.ensures.value ∙ sym (length-map c.self.inside.texts.items string_bytes)) c.place_of.ensures.within)
