use Rattle.std.proofs.Common.{◌≡◌, ◌∙◌, ◌&&◌, not, false, ap, sym, rules}
use Rattle.dds_match.specs.Network.{is_written}
use Rattle.dds_match.specs.Plan.{network_of}
use Rattle.dds_check.specs.Limits.{is_guarded, is_deep, writer_depth}
use Rattle.dds_check.specs.Verdict.{fails}
use Rattle.dds_check.specs.declared.verdict.Number.TheVariants.{WriterDepth}
use Rattle.dds_check.specs.declared.verdict.Subject.TheVariants.{PairKey}
use Rattle.dds_check.proofs.FirstLemmas.{first_below_all}
use Rattle.dds_check.proofs.limits.pair_depth.Goals as goal

pub returns-then-not-is_guarded : goal.returns-then-not-is_guarded
returns-then-not-is_guarded c =
    let net = network_of c.args.plan.now in
    let w = c.args.writer in
    let r = c.args.reader in
    let bounds = c.args.bounds.now in
    let totals = c.args.totals.now in
    let failed : c.is_guarded.result ≡ false = search rules in
    let unguarded : is_guarded net w r ≡ false = sym c.is_guarded.ensures ∙ failed in
    sym (first_below_all (writer_depth net bounds totals w r) net.keys (λ k l. ap (λ b. fails (b && (is_written net w k && (net.hears r k && not (is_deep net bounds totals w r k)))) WriterDepth (PairKey w r k)) unguarded))
