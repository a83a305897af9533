use Rattle.std.proofs.Common.{rules, ◌∙◌}
use borrow.Author.Tests.{tests}
use Rattle.std.proofs.lemmas.Iterator.{YieldsList-from_slice}
use Rattle.std.proofs.lemmas.Iterator.Search.{any_from_yields_List}
use Rattle.dds_writer.specs.Proxies.{ProxyState, awaits}
use Rattle.dds_writer.proofs.ProxyLaws.{awaited_by}
use Rattle.test_forms.proofs.proxies.is_awaited.Goals as goal

pub returns : goal.returns
returns c =
    any_from_yields_List (λ (p : ProxyState). awaits p c.args.n) _ _ c.any.result c.any.ensures.ran (YieldsList-from_slice c.args.proxies.now cc) (λ x b q k. search (rules, tests))
    ∙ awaited_by c.args.proxies.now c.args.n
