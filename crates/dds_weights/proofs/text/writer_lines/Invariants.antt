use Rattle.std.proofs.Common.{◌≡◌, codes, string_bytes}
use Rattle.dds_weights.specs.Lists.{weight_of}
use Rattle.dds_text.specs.Names.{name_at, writer_keys}
use Rattle.dds_text.specs.Texts.{each_below}
use Rattle.dds_weights.specs.Text.{endpoint_lines}
use Rattle.dds_weights.proofs.text.writer_lines.Given as goal

-- the lines of the writers so far
abbrev pub invariant-loop-w : goal.invariant-loop-w
invariant-loop-w l = string_bytes l.text ≡ each_below l.w (λ w. endpoint_lines (codes "writer") (name_at l.lists.writers.names w) (writer_keys l.lists w) (weight_of l.weights w))
