-- The texts of replies.
use Rattle.std.specs.Prelude.{ℕ, List, ◌++◌, codes, Some, None}
use Rattle.std.specs.Fmt.{decimal}
use Rattle.dds_base.specs.declared.events.Refusal.{Refusal}
use Rattle.dds_base.specs.declared.events.Refusal.TheVariants as refusal
use Rattle.dds_base.specs.declared.events.Reply.{Reply}
use Rattle.dds_base.specs.declared.events.Reply.TheVariants.{Refused, Written, Fired, Took, Sent, Arrived, Acked, Dropped}
use Rattle.dds_base.specs.declared.sample.Arrival.{Arrival}
use Rattle.dds_base.specs.declared.sample.Arrival.TheVariants as arrival
use Rattle.dds_base.specs.declared.sample.Rejection.{Rejection}
use Rattle.dds_base.specs.declared.sample.Rejection.TheVariants as rejection
use Rattle.dds_base.specs.declared.sample.Sample.{Sample}
use Rattle.dds_lists.specs.Lists.{Lists}
use Rattle.dds_text.specs.Texts.{two_words}
use Rattle.dds_text.specs.Names.{writer_name}

-- the word for why an event is refused
abbrev pub refusal_name : Refusal → List ℕ
refusal_name refusal.Foreign = codes "Foreign"
refusal_name refusal.NoPermit = codes "NoPermit"
refusal_name refusal.NotYet = codes "NotYet"
refusal_name refusal.SequenceEnd = codes "SequenceEnd"
refusal_name refusal.InstanceLimit = codes "InstanceLimit"
refusal_name refusal.Full = codes "Full"
refusal_name refusal.InstanceFull = codes "InstanceFull"
refusal_name refusal.NotEnough = codes "NotEnough"
refusal_name refusal.CountLimit = codes "CountLimit"
refusal_name refusal.Empty = codes "Empty"
refusal_name refusal.NothingToSend = codes "NothingToSend"
refusal_name refusal.NoPacket = codes "NoPacket"

-- the word for the limit that a rejected sample met
abbrev pub rejection_name : Rejection → List ℕ
rejection_name rejection.InstancesLimit = codes "InstancesLimit"
rejection_name rejection.SamplesLimit = codes "SamplesLimit"
rejection_name rejection.SamplesPerInstanceLimit = codes "SamplesPerInstanceLimit"

-- the writer of a sample, and its number there
abbrev pub sample_text : Lists → Sample → List ℕ
sample_text d s = two_words (writer_name d s.writer) (decimal s.sn)

-- what a message did at a reader
abbrev pub arrival_text : Lists → Arrival → List ℕ
arrival_text d arrival.New = codes "new"
arrival_text d arrival.Repeat = codes "repeat"
arrival_text d (arrival.Irrelevant n) = codes "irrelevant " ++ decimal n
arrival_text d (arrival.Overwrote s) = codes "overwrote " ++ sample_text d s
arrival_text d (arrival.Rejected kind) = codes "rejected " ++ rejection_name kind
arrival_text d arrival.Heard = codes "heard"
arrival_text d (arrival.Lost n) = codes "lost " ++ decimal n
arrival_text d arrival.Stranger = codes "stranger"

-- what an event did
abbrev pub reply_text : Lists → Reply → List ℕ
reply_text d (Refused why) = codes "refused " ++ refusal_name why
reply_text d (Written n) = codes "written " ++ decimal n
reply_text d Fired = codes "fired"
reply_text d (Took s) = codes "took " ++ sample_text d s
reply_text d (Sent (Some place)) = codes "place " ++ decimal place
reply_text d (Sent None) = codes "no place"
reply_text d (Arrived what) = arrival_text d what
reply_text d Acked = codes "acked"
reply_text d Dropped = codes "dropped"
