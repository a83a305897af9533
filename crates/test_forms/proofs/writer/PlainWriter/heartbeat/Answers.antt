use Rattle.std.proofs.Common.{◌≡◌, subst, ap, arith}
use Rattle.dds_writer.specs.Writer.{WriterState, IsKept}
use Rattle.dds_writer.proofs.ProxyLaws.{some_in_range}
use Rattle.dds_writer.proofs.Relevance.{first_bounds}
use Rattle.test_forms.proofs.writer.PlainWriter.heartbeat.Goals as goal

pub unwrap-requires : goal.unwrap-requires
unwrap-requires c =
    let sound : IsKept c.args.self.now = subst IsKept c.self.view_is c.self.invariant.kept in
    let same : c.self.inside.written ≡ c.args.self.now.written = ap (λ (v : WriterState). v.written) c.self.view_is in
    let bounds = first_bounds c.args.self.now sound in
    let low = bounds.0 in
    let high = bounds.1 in
    let ended = sound.ended in
    some_in_range _ c.new.result c.new.ensures (omega arith, omega arith, omega arith)
