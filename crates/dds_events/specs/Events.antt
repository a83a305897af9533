-- The texts of events.
use Rattle.std.specs.Prelude.{ℕ, true, false, List, ◌++◌, codes}
use Rattle.std.specs.Fmt.{decimal}
use Rattle.dds_base.specs.declared.events.Event.{Event}
use Rattle.dds_base.specs.declared.events.Event.TheVariants.{Write, Fire, Take, SendData, SendGap, SendHeartbeat, SendAckNack, Deliver, Lose}
use Rattle.dds_lists.specs.Lists.{Lists}
use Rattle.dds_text.specs.Names.{reader_key, writer_key, reader_name, rule_text, writer_name}
use Rattle.dds_text.specs.Texts.{three_words, two_words}

-- what is done, in words; the data of a write is not shown
abbrev pub event_text : Lists → Event → List ℕ
event_text d (Write w k payload) = codes "write " ++ two_words (writer_name d w) (writer_key d w k)
event_text d (Fire u) = codes "fire " ++ rule_text d u
event_text d (Take r k) = codes "take " ++ two_words (reader_name d r) (reader_key d r k)
event_text d (SendData w r n) = codes "send " ++ three_words (writer_name d w) (reader_name d r) (decimal n)
event_text d (SendGap w r n) = codes "gap " ++ three_words (writer_name d w) (reader_name d r) (decimal n)
event_text d (SendHeartbeat w r) = codes "heartbeat " ++ two_words (writer_name d w) (reader_name d r)
event_text d (SendAckNack r w) = codes "acknack " ++ two_words (reader_name d r) (writer_name d w)
event_text d (Deliver place true) = codes "deliver " ++ (decimal place ++ codes " keep")
event_text d (Deliver place false) = codes "deliver " ++ decimal place
event_text d (Lose place) = codes "lose " ++ decimal place
