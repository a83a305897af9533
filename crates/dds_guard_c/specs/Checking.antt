-- What a check says to a program in C.
use Rattle.std.specs.Prelude.{ℕ, List, ◌++◌, ◌≡◌, ◌≤◌, ◌⊎◌, length, min, take, drop}
use Rattle.dds_answers.specs.Outcome.{Outcome, check_file_outcome}
use Rattle.dds_answers.specs.Report.{Ends, output_of, status_of}
use Rattle.dds_answers.specs.Fault.{IsAnswerFault, exit_of, fault_line}
use Rattle.dds_answers.specs.declared.exit.Exit.TheVariants as exit
use Rattle.dds_answers.specs.declared.fault.ToolFault.{ToolFault}
use Rattle.dds_answers.specs.declared.fault.ToolFault.TheVariants.{TooLarge}
use Rattle.dds_options.specs.declared.detail.Detail.TheVariants.{Plain}

-- the faults that a check of two texts can end in
abbrev pub IsCheckFault : ToolFault → Type 0
IsCheckFault e = (e ≡ TooLarge) ⊎ IsAnswerFault e

-- yes or no with the lines of the answer, or the line of the fault of a bad file
abbrev pub Says : Outcome → ℕ → List ℕ → Type 0
Says end verdict line =
    ((verdict ≤ 1) × (verdict ≡ status_of end) × (line ≡ output_of end))
    ⊎ ((verdict ≡ 2) × (fault : ToolFault) × Ends fault end × (exit_of fault ≡ exit.BadFile) × (line ≡ fault_line fault))

-- as many bytes of a text as there is room for, and after them what was there
abbrev pub put_over : List ℕ → List ℕ → List ℕ
put_over text room = take (min (length text) (length room)) text ++ drop (min (length text) (length room)) room

-- the verdict comes from the check of two files with these bytes, and its text is put over what was there, as far as there is room, with its whole length
abbrev pub IsChecked : (deployment certificate : List ℕ) → (verdict whole : ℕ) → (old new : List ℕ) → Type 0
IsChecked d c verdict whole old new = (text : List ℕ) × Says (check_file_outcome Plain d c) verdict text × (whole ≡ length text) × (new ≡ put_over text old)
