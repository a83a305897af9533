use Rattle.std.proofs.Common.{◌≡◌, get_or, rules, arith}
use Rattle.dds_match.specs.Plan.{network_of}
use Rattle.dds_writer.specs.Writer.{WriterState}
use Rattle.dds_domain.specs.Standing.{PartsState}
use Rattle.dds_domain.proofs.ScheduleDue.{all_acknowledged, base_at, heartbeat_is_due, pair_proxy}
use Rattle.dds_domain.proofs.parts.Parts.heartbeat_due.Goals as goal

pub base-requires : goal.base-requires
base-requires c =
    let d : PartsState = c.args.self.now in
    let x : WriterState = c.index-from.result.now in
    let here : x ≡ get_or d.writers c.args.writer x = search rules in
    pair_proxy d c.args.writer c.args.reader c.requires.standing c.requires.pair x here

pub returns-then-base-written : goal.returns-then-base-written
returns-then-base-written c = λ v noted at.
    let d : PartsState = c.args.self.now in
    let x : WriterState = c.index-from.result.now in
    let here : x ≡ get_or d.writers c.args.writer x = search rules in
    let held = base_at d c.args.writer c.args.reader c.requires.standing c.requires.pair x here v noted at in
    all_acknowledged (network_of d.plan) v c.args.writer c.args.reader (omega (arith, c.base.ensures, c.written.ensures.count))

pub returns : goal.returns
returns c = λ v noted at.
    let d : PartsState = c.args.self.now in
    let x : WriterState = c.index-from.result.now in
    let here : x ≡ get_or d.writers c.args.writer x = search rules in
    let held = base_at d c.args.writer c.args.reader c.requires.standing c.requires.pair x here v noted at in
    heartbeat_is_due (network_of d.plan) v c.args.writer c.args.reader (search rules) (omega (arith, c.base.ensures, c.written.ensures.count))
