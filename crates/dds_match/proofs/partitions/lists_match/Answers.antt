use Rattle.std.proofs.Common.{map, string_bytes, sym, ◌∙◌}
use Rattle.dds_match.proofs.Patterns.{split_found, split_patterns, split_plain}
use Rattle.dds_match.proofs.partitions.lists_match.Goals as goal

pub returns-then-some_meets : goal.returns-then-some_meets
returns-then-some_meets c = c.if-some_meets.true ∙ split_found (map string_bytes c.args.writer.now) (map string_bytes c.args.reader.now) (sym c.some_meets.ensures ∙ c.if-some_meets.true)

pub returns-then-has_patterns : goal.returns-then-has_patterns
returns-then-has_patterns c = c.some_has_pattern.ensures ∙ split_patterns (map string_bytes c.args.writer.now) (map string_bytes c.args.reader.now) (sym c.some_meets.ensures ∙ c.if-some_meets.false) (sym c.has_patterns.ensures ∙ c.if-has_patterns.true)

pub returns-else-has_patterns : goal.returns-else-has_patterns
returns-else-has_patterns c = c.if-has_patterns.false ∙ split_plain (map string_bytes c.args.writer.now) (map string_bytes c.args.reader.now) (sym c.some_meets.ensures ∙ c.if-some_meets.false) (sym c.has_patterns.ensures ∙ c.if-has_patterns.false)
