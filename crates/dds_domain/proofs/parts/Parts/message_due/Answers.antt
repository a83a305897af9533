use Rattle.std.proofs.Common.{◌≡◌, get_or, rules}
use Rattle.dds_writer.specs.Writer.{WriterState}
use Rattle.dds_domain.proofs.ScheduleDue.{due_at, pair_proxy}
use Rattle.dds_domain.proofs.parts.Parts.message_due.Goals as goal

pub due-requires : goal.due-requires
due-requires c =
    let x : WriterState = c.index.result.now in
    let here : x ≡ get_or c.args.self.now.writers c.args.writer x = search rules in
    pair_proxy c.args.self.now c.args.writer c.args.reader c.requires.standing c.requires.pair x here

pub returns : goal.returns
returns c = λ v noted at.
    let x : WriterState = c.index.result.now in
    let here : x ≡ get_or c.args.self.now.writers c.args.writer x = search rules in
    due_at c.args.self.now c.args.writer c.args.reader c.requires.standing c.requires.pair x _ here c.due.ensures v noted at
