use Rattle.std.proofs.Common.{◌≡◌, length, take}
use Rattle.std.specs.List.{list_any}
use Rattle.dds_options.specs.Allowed.{lets_pass, words_of}
use Rattle.dds_options.proofs.allowed.Allowed.has.Given as goal

-- whether one of the words so far lets it pass
abbrev pub invariant-loop-word : goal.invariant-loop-word
invariant-loop-word l = l.any ≡ list_any (lets_pass l.kind l.subject) (take (length l.yielded) (words_of l.self))
