-- What a writer makes for a matched reader: the DATA of a number, or the GAP that begins at one.
use Rattle.std.specs.Prelude.{◌≡◌, ◌⊎◌, ◌-◌, ◌&&◌, ℕ, Bool, not, Some}
use Rattle.dds_base.specs.Sums.{In}
use Rattle.dds_base.specs.declared.events.Event.{Event}
use Rattle.dds_base.specs.declared.events.Event.TheVariants.{SendData, SendGap}
use Rattle.dds_base.specs.declared.messages.Packet.{Packet}
use Rattle.dds_base.specs.declared.messages.Packet.TheVariants.{Data, Gap}
use Rattle.dds_qos.specs.declared.notes.Due.{Due}
use Rattle.dds_qos.specs.declared.notes.Due.TheVariants.{Data as DueData, Gap as DueGap}
use Rattle.dds_qos.specs.Writing.{gap_of}
use Rattle.dds_writer.specs.Proxies.{proxy_of}
use Rattle.dds_writer.specs.Writer.{WriterState, is_offered, is_relevant, is_silent}

-- the event of its sending
abbrev pub sending : ℕ → ℕ → Due → Event
sending w r (DueData n) = SendData w r n
sending w r (DueGap n) = SendGap w r n

-- the writer has it for the reader
abbrev pub has_message : WriterState → ℕ → Due → Bool
has_message x r (DueData n) = is_offered x (proxy_of r x.proxies) n
has_message x r (DueGap n) = not (proxy_of r x.proxies).watcher && is_silent x (proxy_of r x.proxies) n

-- the packet is that message, and the number is the last one that it covers
abbrev pub IsMessage : WriterState → ℕ → Due → Packet → ℕ → Type 0
IsMessage x r (DueData n) (Data m) last = (last ≡ n) × (m.reader ≡ r) × (m.sample.sn ≡ n) × (In m.sample x.kept ⊎ (x.last ≡ Some m.sample))
IsMessage x r (DueGap n) (Gap g) last = (last ≡ g.set.base - 1) × (g ≡ gap_of x.me r (is_relevant x (proxy_of r x.proxies)) x.written n)
IsMessage x r due p last = ⊥
