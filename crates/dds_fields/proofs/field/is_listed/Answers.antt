use Rattle.std.proofs.Common.{rules, tests}
use Rattle.std.specs.Str.{bytes_eq}
use Rattle.std.proofs.lemmas.Iterator.{YieldsList-from_slice}
use Rattle.std.proofs.lemmas.Iterator.Search.{any_from_yields_List}
use Rattle.dds_fields.proofs.field.is_listed.Goals as goal

pub returns : goal.returns
returns c = any_from_yields_List (λ l. bytes_eq c.args.key.now l.now) _ _ c.any.result c.any.ensures.ran (YieldsList-from_slice c.args.listed.now cc) (λ x b q k. search (rules, tests))
