use Rattle.std.proofs.Common.{sym, ◌∙◌}
use Rattle.std.specs.BTreeMap.{keys}
use Rattle.std.proofs.lemmas.Map.Entries.{length-keys_of}
use Rattle.dds_qos.proofs.KeySets.{len_sorted}
use Rattle.dds_writer.proofs.history.History.instances.Goals as goal

pub returns : goal.returns
returns c = c.len.ensures.len ∙ sym (length-keys_of c.args.self.now.counts.entries) ∙ sym (len_sorted (keys c.args.self.now.counts) c.len.ensures.ordered)
