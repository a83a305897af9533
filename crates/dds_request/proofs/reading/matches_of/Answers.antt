use Rattle.std.proofs.Common.{◌≡◌, [], ap, ◌∙◌, map, subst}
use Rattle.clap.specs.Words.{App, HasKind, Kinds, fault_of, is_simple, subcommand_of, takes}
use Rattle.dds_request.specs.Asking.{IsHelp}
use Rattle.dds_request.specs.Command.{whole}
use Rattle.dds_request.proofs.Helps.{help_given, of_whole, refusal_given, taken_no_help}
use Rattle.dds_request.proofs.reading.matches_of.Goals as goal

pub returns-in-Ok-try_get_matches_from-clause-rows : goal.returns-in-Ok-try_get_matches_from-clause-rows
returns-in-Ok-try_get_matches_from-clause-rows g c =
    (c.in-Ok-try_get_matches_from.ensures.matches (ap is_simple c.in-Ok.ensures)).1
    ∙ ap (λ (a : App). subcommand_of a (map g.S.AsStr.text c.args.words.now)) c.in-Ok.ensures

pub returns-in-Err-clause-memory : goal.returns-in-Err-clause-memory
returns-in-Err-clause-memory g c = λ taken.
    c.explain.ensures.memory (c.in-Err.ensures.passes
    (ap (λ (a : App). takes a (map g.S.AsStr.text c.args.words.now)) c.in-Ok.ensures ∙ taken))

pub returns-in-Err-clause-taken : goal.returns-in-Err-clause-taken
returns-in-Err-clause-taken g c = λ taken help. subst IsHelp (returns-in-Err-clause-memory g c taken) help

pub returns-in-Ok-try_get_matches_from-clause-help : goal.returns-in-Ok-try_get_matches_from-clause-help
returns-in-Ok-try_get_matches_from-clause-help g c =
    let words = map g.S.AsStr.text c.args.words.now in
    taken_no_help (fault_of whole words) (of_whole words _ (λ (kinds : Kinds). kinds ≡ []) c.in-Ok.ensures c.in-Ok-try_get_matches_from.ensures.kinds)

pub returns-in-Ok-try_get_matches_from-clause-refused : goal.returns-in-Ok-try_get_matches_from-clause-refused
returns-in-Ok-try_get_matches_from-clause-refused g c = λ refused.
    let words = map g.S.AsStr.text c.args.words.now in
    refused.0 (of_whole words _ (λ (kinds : Kinds). kinds ≡ []) c.in-Ok.ensures c.in-Ok-try_get_matches_from.ensures.kinds)

pub returns-in-Err-clause-help : goal.returns-in-Err-clause-help
returns-in-Err-clause-help g c =
    let words = map g.S.AsStr.text c.args.words.now in
    help_given (fault_of whole words) c.in-Err.error c.explain.result (of_whole words _ (λ (kinds : Kinds). HasKind kinds c.in-Err.error) c.in-Ok.ensures c.in-Err.ensures.kinds)
    c.explain.ensures.help c.explain.ensures.memory

pub returns-in-Err-clause-refused : goal.returns-in-Err-clause-refused
returns-in-Err-clause-refused g c = λ refused.
    let words = map g.S.AsStr.text c.args.words.now in
    refusal_given (fault_of whole words) c.in-Err.error c.explain.result (of_whole words _ (λ (kinds : Kinds). HasKind kinds c.in-Err.error) c.in-Ok.ensures c.in-Err.ensures.kinds)
    c.explain.ensures.usage refused.1 refused.2
