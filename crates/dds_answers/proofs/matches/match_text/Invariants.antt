use Rattle.std.proofs.Common.{◌≡◌, string_bytes}
use Rattle.dds_answers.specs.Matches.{lines_of}
use Rattle.dds_answers.proofs.matches.match_text.Given as goal

-- the lines of the writers so far
abbrev pub invariant-loop-w : goal.invariant-loop-w
invariant-loop-w l = string_bytes l.text ≡ lines_of l.plan l.w l.readers
