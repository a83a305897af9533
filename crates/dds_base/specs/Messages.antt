-- The messages between a writer and a reader, as contracts see them, and their ranges (DDSI-RTPS 2.5, clause 8.3.8).
use Rattle.std.specs.Prelude.{ℕ, ◌+◌, ◌≤◌, Bool, ◌&&◌, ◌||◌, nat_le, nat_lt}
use Rattle.dds_base.specs.declared.sample.Sample.{Sample}
use Rattle.dds_base.specs.Sets.{NumberSet, has, last_number}

-- a DATA: the sample of its writer for a reader
pub record DataFor : Type 0 where
  pub reader : ℕ
  pub sample : Sample

-- a GAP: the numbers from start to set.base - 1 and those of the set
pub record GapFor : Type 0 where
  pub writer : ℕ
  pub reader : ℕ
  pub start : ℕ
  pub set : NumberSet

-- a HEARTBEAT: the least number that the writer keeps, and the greatest written
pub record HeartbeatFor : Type 0 where
  pub writer : ℕ
  pub reader : ℕ
  pub first : ℕ
  pub last : ℕ

-- the ranges of messages. A base, a GAP's start and a HEARTBEAT's first may be the number after the last one
abbrev pub FitsData : Sample → Type 0
FitsData s = (1 ≤ s.sn) × (s.sn ≤ last_number)

abbrev pub FitsGap : ℕ → NumberSet → Type 0
FitsGap start set = (1 ≤ start) × (start ≤ set.base)

abbrev pub FitsHeartbeat : ℕ → ℕ → Type 0
FitsHeartbeat first last = (1 ≤ first) × (first ≤ last + 1) × (last ≤ last_number)

-- the numbers that a GAP speaks of
abbrev pub covers : GapFor → ℕ → Bool
covers g n = (nat_le g.start n && nat_lt n g.set.base) || has g.set n
