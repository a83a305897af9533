use Rattle.std.proofs.Common.{◌≡◌, ◌∙◌, ap, subst, sym}
use Rattle.std.specs.Str.{bytes_eq}
use Rattle.dds_text.specs.Names.{name_at}
use Rattle.dds_text.specs.Texts.{two_words}
use Rattle.dds_events.proofs.KindLaws.{keyed_rule}
use Rattle.dds_events.proofs.kinds.is_rule_text.Goals as goal

pub returns-in-Some-after_word : goal.returns-in-Some-after_word
returns-in-Some-after_word c =
    let at = sym c.rule_origin.ensures ∙ c.in-Some.is in
    let named : c.name_at-name.result.now ≡ name_at c.args.lists.now.rules.names c.in-Some.origin.name = c.name_at-name.ensures ∙ ap (λ names. name_at names c.in-Some.origin.name) c.rule_names.ensures in
    let cut = subst (λ name. two_words name c.in-Some-after_word.rest.now ≡ c.args.text.now) named c.in-Some-after_word.ensures.some in
    let same = c.eq.ensures ∙ ap (bytes_eq c.in-Some-after_word.rest.now) c.key_name.ensures in
    keyed_rule c.args.lists.now c.args.rule c.in-Some.origin c.in-Some-key.topic c.in-Some-key.key c.in-Some-after_word.rest.now c.args.text.now c.eq.result at c.in-Some-key.is cut same
