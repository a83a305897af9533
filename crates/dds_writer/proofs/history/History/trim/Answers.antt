use Rattle.std.proofs.Common.{◌∙◌, ap, sym}
use Rattle.dds_base.specs.declared.sample.Sample.{Sample}
use Rattle.dds_qos.specs.Writing.{is_awaited}
use Rattle.dds_writer.specs.Proxies.{bases_of}
use Rattle.dds_writer.proofs.Found.{rising_in}
use Rattle.dds_writer.proofs.Trims.{still_first}
use Rattle.dds_writer.proofs.history.History.trim.Goals as goal

pub returns-else-not-is_awaited-clause-kept : goal.returns-else-not-is_awaited-clause-kept
returns-else-not-is_awaited-clause-kept c =
    let first = ap (λ (s : Sample). is_awaited (bases_of c.args.proxies.now) s.sn) (sym c.index.ensures) ∙ sym c.is_awaited.ensures ∙ c.if-not-is_awaited.false in
    sym (still_first (bases_of c.args.proxies.now) c.loop-self.self.kept.items c.index.result.now (rising_in c.loop-self.self.kept.items c.loop-self.self.rising) first) ∙ c.loop-self.invariant.kept
