use Rattle.std.proofs.Common.{◌≡◌, ◌++◌, string_bytes}
use Rattle.dds_text.specs.Texts.{each_below}
use Rattle.dds_answers.specs.Matches.{pair_line}
use Rattle.dds_answers.proofs.matches.push_writer.Given as goal

-- the lines of the readers so far are added
abbrev pub invariant-loop-r : goal.invariant-loop-r
invariant-loop-r l = string_bytes l.text ≡ string_bytes l.initial.text ++ each_below l.r (pair_line l.plan l.writer)
