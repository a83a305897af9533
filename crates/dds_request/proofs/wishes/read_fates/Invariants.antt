use Rattle.std.proofs.Common.{◌≡◌, ◌≤◌, length, map, take}
use Rattle.dds_request.specs.Wishes.{fate_word}
use Rattle.dds_request.proofs.WordLists.{parts_of}
use Rattle.dds_request.proofs.wishes.read_fates.Given as goal

-- the first so many fates are those of the first so many parts
abbrev pub invariant-loop-word : goal.invariant-loop-word
invariant-loop-word l = (l.count ≡ length l.yielded) × (l.count ≤ 64) × (length l.fates ≡ 64) × (map fate_word (take l.count l.fates) ≡ take l.count (parts_of l.text))
