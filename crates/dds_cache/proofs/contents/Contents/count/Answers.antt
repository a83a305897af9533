use Rattle.std.proofs.Common.{◌≡◌, ◌∙◌, Some, None, sym, ap, rules}
use Rattle.std.specs.Prelude.{is_some}
use Rattle.std.specs.Ordering.{nat_cmp}
use Rattle.std.specs.BTreeMap as tree
use Rattle.dds_qos.proofs.KeySets.{knows_is}
use Rattle.dds_cache.proofs.contents.Contents.count.Goals as goal

pub returns-in-Some-clause-known : goal.returns-in-Some-clause-known
returns-in-Some-clause-known c =
    let counts = c.args.self.now.counts in
    let got : tree.get nat_cmp counts c.args.key ≡ Some c.in-Some.count.now = search rules in
    sym (ap is_some got) ∙ knows_is counts c.args.key

pub returns-in-None-clause-known : goal.returns-in-None-clause-known
returns-in-None-clause-known c =
    let counts = c.args.self.now.counts in
    let got : tree.get nat_cmp counts c.args.key ≡ None = search rules in
    sym (ap is_some got) ∙ knows_is counts c.args.key
