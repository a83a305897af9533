use Rattle.std.proofs.Common.{rules, tests, not, ap}
use Rattle.std.proofs.lemmas.Iterator.{YieldsList-from_slice}
use Rattle.std.proofs.lemmas.Iterator.Search.{any_from_yields_List}
use Rattle.dds_qos.specs.Compatibility.{contains, policies}
use Rattle.dds_qos.proofs.compatibility.PolicySet.is_empty.Goals as goal

pub returns : goal.returns
returns c = ap not (any_from_yields_List (contains c.args.self) _ _ c.any.result c.any.ensures.ran (YieldsList-from_slice policies cc) (λ x b q k. search (rules, tests)))
