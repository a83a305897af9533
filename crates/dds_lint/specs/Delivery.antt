-- Where the policies of two endpoints keep samples from coming, or let one hold up the other.
use Rattle.std.specs.Prelude.{ℕ, Bool, true, false, ◌&&◌, ◌||◌, ◌==◌, not, nat_lt, length, slice_get, is_some, is_none}
use Rattle.std.specs.Option.{option_map_or}
use Rattle.dds_base.specs.Sums.{count_below}
use Rattle.dds_qos.specs.Profile.{is_best_effort}
use Rattle.dds_qos.specs.declared.limits.ReaderLimits.{ReaderLimits}
use Rattle.dds_qos.specs.declared.limits.WriterLimits.{WriterLimits}
use Rattle.dds_qos.specs.declared.policies.Durability.{Durability}
use Rattle.dds_qos.specs.declared.policies.Durability.TheVariants.{Volatile, TransientLocal, Transient, Persistent}
use Rattle.dds_lists.specs.Lists.{Lists, Reader, Writer}
use Rattle.dds_match.specs.Matching.{why_not}
use Rattle.dds_match.specs.Network.{Network, is_late, is_written, matched_readers}
use Rattle.dds_match.specs.Plan.{network_of}
use Rattle.dds_match.specs.declared.matching.WhyNot.{WhyNot}
use Rattle.dds_match.specs.declared.matching.WhyNot.TheVariants.{OtherDomain, OtherTopic, Partitions, Policies}
use Rattle.dds_lint.specs.Renewal.{ends_at}

-- the reason is that policies are incompatible
abbrev pub is_of_policies : WhyNot → Bool
is_of_policies OtherDomain = false
is_of_policies OtherTopic = false
is_of_policies Partitions = false
is_of_policies (Policies set) = true

-- nothing but their policies keeps the two apart, and no connection names them
abbrev pub are_incompatible : Lists → ℕ → ℕ → Bool
are_incompatible d w r = option_map_or is_of_policies (why_not d w r) false && not ((network_of d).intended w r)

-- rules write at the writer, and no reader matches it
abbrev pub is_unheard : Network → ℕ → Bool
is_unheard net w = nat_lt 0 (count_below net.keys (is_written net w)) && (length (matched_readers net w) == 0)

-- the deployment says of the reader that it may lose samples
abbrev pub may_lose : Lists → ℕ → Bool
may_lose d r = option_map_or (λ (x : Reader). x.may_lose) (slice_get d.readers.entries r) false

-- the reader is there, and asks its writers to repeat what it hasn't got
abbrev pub is_reliable : Lists → ℕ → Bool
is_reliable d r = option_map_or (λ (x : Reader). not (is_best_effort x.qos.requested.reliability)) (slice_get d.readers.entries r) false

-- the reader refuses what comes when it's full: it limits samples, instances or, where it keeps all, the samples of an instance
abbrev pub may_refuse : ReaderLimits → Bool
may_refuse limits =
    is_some limits.max_samples || (is_some limits.max_instances || (is_none limits.keep_last && is_some limits.max_samples_per_instance))

-- the reader may lose samples, and yet its writers repeat to it what it refuses
abbrev pub stalls : Lists → ℕ → Bool
stalls d r = may_lose d r && (is_reliable d r && may_refuse ((network_of d).reader_limits r))

-- the writer keeps all, within a limit of samples
abbrev pub keeps_within_limit : WriterLimits → Bool
keeps_within_limit limits = is_none limits.keep_last && (is_some limits.max_samples || is_some limits.max_samples_per_instance)

-- the writer keeps all within a limit, and waits for what the reader acknowledges
abbrev pub is_held_up : Lists → ℕ → ℕ → Bool
is_held_up d w r = (network_of d).matched w r && (is_reliable d r && keeps_within_limit ((network_of d).writer_limits w))

abbrev pub is_volatile : Durability → Bool
is_volatile Volatile = true
is_volatile TransientLocal = false
is_volatile Transient = false
is_volatile Persistent = false

-- the reader is there, and asks for nothing that was written before it came
abbrev pub is_volatile_reader : Lists → ℕ → Bool
is_volatile_reader d r = option_map_or (λ (x : Reader). is_volatile x.qos.requested.durability) (slice_get d.readers.entries r) false

-- the writer is there, and keeps what it wrote for readers to come
abbrev pub is_lasting_writer : Lists → ℕ → Bool
is_lasting_writer d w = option_map_or (λ (x : Writer). not (is_volatile x.qos.offered.durability)) (slice_get d.writers.entries w) false

-- the writer keeps what it wrote for readers to come, and the rules that write there end: what it wrote is there to be got late
abbrev pub is_latched : Lists → ℕ → Bool
is_latched d w = is_lasting_writer d w && ends_at (network_of d) w

-- the reader matches the writer, must lose nothing, and yet asks for nothing that was written before it came; neither may come at any time, for 27 refuses
-- such a pair
abbrev pub misses_history : Lists → ℕ → ℕ → Bool
misses_history d w r =
    (network_of d).matched w r && (not ((network_of d).watcher r) && (is_volatile_reader d r && not (is_late (network_of d) w r)))

-- the reader gets nothing of a latched writer if it comes late
abbrev pub comes_late : Lists → ℕ → ℕ → Bool
comes_late d w r = is_latched d w && misses_history d w r
