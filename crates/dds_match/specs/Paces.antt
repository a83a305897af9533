-- How many samples paced rules bring, and what that leaves in flight to a reader that takes them soon. All times are in nanoseconds.
use Rattle.std.specs.Prelude.{ℕ, ◌+◌, ◌*◌, ◌/◌, Bool, not, ◌&&◌, nat_le, is_none, Option, Some, None, if◌then◌else◌, option_and_then, length, slice_get}
use Rattle.std.specs.Option.{option_map_or}
use Rattle.dds_base.specs.Sums.{any_below, total}
use Rattle.dds_lists.specs.declared.lists.Pace.{Pace}
use Rattle.dds_lists.specs.Lists.{Reader, Rule, Lists}
use Rattle.dds_match.specs.Network.{is_named, named}
use Rattle.dds_match.specs.Words.{matched, watcher, hears, rule_of}

-- how many turns a pace has at most in a closed span: one, and one more for each period that fits the span and the jitter
abbrev pub turns : Pace → ℕ → ℕ
turns p span = 1 + (span + p.jitter) / p.period

-- how many samples of the key the rule writes at the writer at most in a closed span: its count of them in each turn. 0 where it writes none
abbrev pub brings : Rule → ℕ → ℕ → ℕ → ℕ
brings u w k span = named u.writes w k * option_map_or (λ p. turns p span) u.pace 0

-- the rule writes the key at the writer, and nothing says how often
abbrev pub is_unpaced : Rule → ℕ → ℕ → Bool
is_unpaced u w k = is_named u.writes w k && is_none u.pace

-- each rule that writes the key at the writer has a pace
abbrev pub is_paced : Lists → ℕ → ℕ → Bool
is_paced d w k = not (any_below (length d.rules.entries) (λ u. is_unpaced (rule_of d u) w k))

-- how many samples of the key all rules write at the writer at most in a closed span; none where one of them has no pace
abbrev pub most_within : Lists → ℕ → ℕ → ℕ → Option ℕ
most_within d w k span = if is_paced d w k then Some (total (length d.rules.entries) (λ u. brings (rule_of d u) w k span)) else None

-- how soon after its write the reader takes each sample that it hears; none where that isn't known, or no such reader is there
abbrev pub taken_span : Lists → ℕ → Option ℕ
taken_span d r = option_and_then (λ (x : Reader). x.taken_within) (slice_get d.readers.entries r)

-- how soon after its write the reader can take each sample that it hears; none where that isn't said, or no such reader is there
abbrev pub available_span : Lists → ℕ → Option ℕ
available_span d r = option_and_then (λ (x : Reader). x.available_within) (slice_get d.readers.entries r)

-- a number of samples of 32 bits; no greater one is counted
abbrev pub counted : ℕ → Option ℕ
counted n = if nat_le n 4294967295 then Some n else None

-- the writer and the reader match, the reader is strict and hears the key
abbrev pub is_awaited : Lists → ℕ → ℕ → ℕ → Bool
is_awaited d w r k = matched d w r && (not (watcher d r) && hears d r k)

-- at most how many samples of the key, written at the writer, a reader lacks that lacks none for longer than a span
unfoldable pub in_flight : Lists → ℕ → ℕ → ℕ → Option ℕ → Option ℕ
in_flight d w r k span = if is_awaited d w r k then option_and_then counted (option_and_then (most_within d w k) span) else None

-- at most how many samples of the key, written at the writer, the reader has yet to take
abbrev pub cap_of : Lists → ℕ → ℕ → ℕ → Option ℕ
cap_of d w r k = in_flight d w r k (taken_span d r)

-- at most how many samples of the key, written at the writer, the reader can't take yet
abbrev pub lag_of : Lists → ℕ → ℕ → ℕ → Option ℕ
lag_of d w r k = in_flight d w r k (available_span d r)
