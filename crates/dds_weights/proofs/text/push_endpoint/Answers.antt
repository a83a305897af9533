use Rattle.std.proofs.Common.{string_bytes}
use Rattle.dds_text.specs.Names.{name_at}
use Rattle.dds_weights.specs.Text.{weight_line}
use Rattle.dds_weights.specs.Weighing.{weight_by}
use Rattle.dds_text.proofs.TextLaws.{and_next}
use Rattle.dds_weights.proofs.text.push_endpoint.Goals as goal

pub loop-k-preserved : goal.loop-k-preserved
loop-k-preserved g c =
    and_next (λ k. weight_line c.args.side.now c.args.name.now (name_at c.args.keys.now k) (weight_by g.E.Endpoint.number_of c.args.weights.now (g.E.Endpoint.number_of c.args.endpoint) k)) c.loop-k.k
    (string_bytes c.args.text.now) (string_bytes c.loop-k.text) (string_bytes c.push_weight.new.text)
    c.loop-k.invariant (rw (c.at-weight.ensures, c.new.ensures, c.name_at.ensures) at c.in_ok-push_weight.ensures)
