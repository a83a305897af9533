use Rattle.std.proofs.Common.{◌≡◌, ◌++◌, ◌∷◌, [], false, ap, ◌∙◌}
use Rattle.dds_base.specs.Pairs.{stands}
use Rattle.dds_base.proofs.pairs.Pairs.push.Goals as goal

pub returns-clause-ok : goal.returns-clause-ok
returns-clause-ok c =
    let a = c.args.first in
    let b = c.args.second in
    let none : stands c.self.inside.set.keys a b ≡ false = ap (λ ps. stands ps a b) c.self.view_is ∙ c.requires in
    let keys = rw none at c.in_ok-insert.ensures.keys in
    keys ∙ ap (λ ps. ps ++ (a, b) ∷ []) c.self.view_is
