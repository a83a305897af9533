use Rattle.std.proofs.Common.{sym, string_bytes}
use Rattle.dds_guard.proofs.Growing.{one_more_shown}
use Rattle.dds_guard.proofs.texts.Texts.of.Goals as goal

pub loop-n-preserved : goal.loop-n-preserved
loop-n-preserved c = one_more_shown string_bytes c.args.names.now c.loop-n.texts.items _ c.loop-n.n _ _ (sym c.name.ensures.value) c.loop-n.invariant c.in_ok-from_str.ensures.ok c.in_ok-push.ensures.items
