use Rattle.std.proofs.Common.{sym, ◌∙◌}
use Rattle.std.proofs.lemmas.Bool.{true≢false}
use Rattle.dds_conform.proofs.conforming.conform_rules.Goals as goal

pub conform_by_search-requires-clause-rivals : goal.conform_by_search-requires-clause-rivals
conform_by_search-requires-clause-rivals c = λ none. true≢false (sym c.if-not-has_rivals.false ∙ c.has_rivals.ensures none)
