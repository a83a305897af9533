-- What goes to the error output beside an answer.
use Rattle.std.specs.Prelude.{ℕ, List, ◌++◌, codes, length, nat_le, Option, Some, None, if◌then◌else◌}
use Rattle.std.specs.Fmt.{decimal}
use Rattle.dds_answers.specs.Reading.{most_bytes}

-- a text that is longer than a file may be is reported with its length
abbrev pub length_note : List ℕ → Option (List ℕ)
length_note text =
    if nat_le (length text) most_bytes then None
    else Some (codes "ddscheck: this text has " ++ (decimal (length text) ++ codes " bytes, and a file may have at most 1048576\n"))
