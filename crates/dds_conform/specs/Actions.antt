-- What a line of a trace says: what an application did, and whether that is its own to do.
use Rattle.std.specs.Prelude.{ℕ, ◌<◌, Bool, ◌&&◌, List, ◌++◌, codes, length, Option, Some, None}
use Rattle.dds_base.specs.declared.events.Event.{Event}
use Rattle.dds_base.specs.declared.events.Event.TheVariants as event
use Rattle.dds_lists.specs.Lists.{Lists, has, readers_at, writers_at}
use Rattle.dds_match.specs.Plan.{hears, writes_key}
use Rattle.dds_text.specs.Names.{name_at, reader_key, reader_keys, writer_key, writer_keys, reader_name, writer_name}
use Rattle.dds_text.specs.Texts.{two_words}
use Rattle.dds_conform.specs.declared.actions.Action.{Action}
use Rattle.dds_conform.specs.declared.actions.Action.TheVariants.{Write, Take}

-- what was done, in words
abbrev pub what_text : Lists → Action → List ℕ
what_text d (Write w k) = codes "write " ++ two_words (writer_name d w) (writer_key d w k)
what_text d (Take r k) = codes "take " ++ two_words (reader_name d r) (reader_key d r k)

-- the application, and what it did
abbrev pub action_text : Lists → ℕ → Action → List ℕ
action_text d a x = two_words (name_at d.applications.names a) (what_text d x)

-- the endpoint is there, and the key is in its topic
abbrev pub IsThere : Lists → Action → Type 0
IsThere d (Write w k) = (w < length d.writers.entries) × (k < length (writer_keys d w))
IsThere d (Take r k) = (r < length d.readers.entries) × (k < length (reader_keys d r))

-- the write or take that an event is
abbrev pub action_in : Event → Option Action
action_in (event.Write w k payload) = Some (Write w k)
action_in (event.Take r k) = Some (Take r k)
action_in (event.Fire u) = None
action_in (event.SendData w r n) = None
action_in (event.SendGap w r n) = None
action_in (event.SendHeartbeat w r) = None
action_in (event.SendAckNack r w) = None
action_in (event.Deliver place keep) = None
action_in (event.Lose place) = None

-- the endpoint is the application's, and the key is in the writer's topic or in the reader's filter
abbrev pub is_own : Lists → ℕ → Action → Bool
is_own d a (Write w k) = has (writers_at d.applications a) w && writes_key d w k
is_own d a (Take r k) = has (readers_at d.applications a) r && hears d r k
