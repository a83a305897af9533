-- How a command ends.
use Rattle.std.specs.Prelude.{ℕ}
use Rattle.dds_answers.specs.declared.exit.Exit.{Exit}
use Rattle.dds_answers.specs.declared.exit.Exit.TheVariants as exit

-- the exit status of the program
abbrev pub exit_status : Exit → ℕ
exit_status exit.Yes = 0
exit_status exit.No = 1
exit_status exit.BadFile = 2
exit_status exit.Device = 3
exit_status exit.NoMemory = 3
exit_status exit.Run = 3
exit_status exit.Usage = 4
