use Rattle.std.proofs.Common.{◌≡◌, codes, string_bytes}
use Rattle.dds_weights.specs.Lists.{weight_of}
use Rattle.dds_text.specs.Names.{name_at, reader_keys}
use Rattle.dds_text.specs.Texts.{each_below}
use Rattle.dds_weights.specs.Text.{endpoint_lines}
use Rattle.dds_weights.proofs.text.reader_lines.Given as goal

-- the lines of the readers so far
abbrev pub invariant-loop-r : goal.invariant-loop-r
invariant-loop-r l = string_bytes l.text ≡ each_below l.r (λ r. endpoint_lines (codes "reader") (name_at l.lists.readers.names r) (reader_keys l.lists r) (weight_of l.weights r))
