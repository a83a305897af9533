use Rattle.std.proofs.Common.{◌≡◌, ◌++◌, string_bytes}
use Rattle.dds_text.specs.Names.{name_at}
use Rattle.dds_text.specs.Texts.{each_below}
use Rattle.dds_weights.specs.Text.{weight_line}
use Rattle.dds_weights.specs.Weighing.{weight_by}
use Rattle.dds_weights.proofs.text.push_endpoint.Given as goal

-- the lines of the keys so far are added
abbrev pub invariant-loop-k : goal.invariant-loop-k
invariant-loop-k g l =
    string_bytes l.text ≡ string_bytes l.initial.text ++ each_below l.k (λ j. weight_line l.side l.name (name_at l.keys j) (weight_by g.E.Endpoint.number_of l.weights (g.E.Endpoint.number_of l.endpoint) j))
