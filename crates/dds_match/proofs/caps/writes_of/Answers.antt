use Rattle.std.proofs.Common.{◌≡◌, ◌∙◌, sym, ap, subst}
use Rattle.dds_match.specs.Writes.{AreWrites, writes_at}
use Rattle.dds_match.proofs.Brought.{are_writes}
use Rattle.dds_match.proofs.caps.writes_of.Goals as goal

pub returns-clause-few : goal.returns-clause-few
returns-clause-few c =
    let d = c.args.lists.now in
    let listed : c.list_at.result.now ≡ writes_at d c.args.w = c.list_at.ensures ∙ c.requires c.number.result ∙ ap (writes_at d) c.number.ensures in
    subst AreWrites (sym listed) (are_writes d c.assert_well_formed.ensures.well_formed c.assert_well_formed.ensures.consistent c.args.w)
