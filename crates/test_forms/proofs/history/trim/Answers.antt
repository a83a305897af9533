use Rattle.std.proofs.Common.{rules}
use Rattle.std.proofs.lemmas.Fn.{filter_same}
use Rattle.dds_base.specs.declared.sample.Sample.{Sample}
use Rattle.dds_qos.specs.Writing.{is_awaited}
use Rattle.dds_writer.specs.Proxies.{bases_of}
use Rattle.test_forms.proofs.history.trim.Goals as goal

pub returns : goal.returns
returns c = filter_same _ (λ (s : Sample). is_awaited (bases_of c.args.proxies.now) s.sn) _ (λ x b g called. search rules) _ _ c.retain.ensures.filtered
