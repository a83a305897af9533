-- The numbers of the faults of a run.
use Rattle.std.specs.Prelude.{ℕ}
use Rattle.dds_peers.specs.declared.run.RunFault.{RunFault}
use Rattle.dds_peers.specs.declared.run.RunFault.TheVariants.{AppCount, NoMemory, JournalFull, DiaryMismatch, Spawn}

abbrev pub number_of : {A : Type 0} → RunFault A → ℕ
number_of (AppCount checked apps seats) = 1
number_of NoMemory = 2
number_of JournalFull = 3
number_of DiaryMismatch = 4
number_of Spawn = 5
