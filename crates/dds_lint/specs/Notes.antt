-- What a yes doesn't say.
use Rattle.std.specs.Prelude.{ℕ, Bool, ◌&&◌, ◌||◌, ◌==◌, not, nat_le, nat_lt, List, ◌++◌, length, Option, Some, None, is_some, is_none, if◌then◌else◌}
use Rattle.std.specs.List.{list_any}
use Rattle.std.specs.Option.{option_to_list}
use Rattle.dds_base.specs.Sums.{any_below, count_below}
use Rattle.dds_base.specs.declared.portion.Portion.{Portion}
use Rattle.dds_lists.specs.Lists.{Lists, keys_at, writer_topic}
use Rattle.dds_match.specs.Network.{Network, reach, is_named, is_written}
use Rattle.dds_match.specs.Paces.{taken_span}
use Rattle.dds_match.specs.Plan.{network_of}
use Rattle.dds_weights.specs.Lists as lists
use Rattle.dds_weights.specs.declared.certificate.Bound.{Bound}
use Rattle.dds_weights.specs.declared.certificate.Total.{Total}
use Rattle.dds_runs.specs.Accepted.{instance_limit}
use Rattle.dds_runs.specs.First.{first_below}
use Rattle.dds_check.specs.Limits.{all_bounded, is_over}
use Rattle.dds_check.specs.Tables.{total_of}
use Rattle.dds_lint.specs.declared.notes.Note.{Note}
use Rattle.dds_lint.specs.declared.notes.Note.TheVariants as note
use Rattle.dds_lint.specs.Delivery.{are_incompatible, comes_late, is_held_up, is_unheard, may_lose, stalls}
use Rattle.dds_lint.specs.Every.{every_below, those_below, those_in}
use Rattle.dds_lint.specs.Firings.{has_takes, most_firings, opens}
use Rattle.dds_lint.specs.Pacing.{is_pace_unused, is_span_of_watcher, is_span_unused}
use Rattle.dds_lint.specs.Renewal.{is_finite}

-- the note, where the test holds
abbrev pub noted : Bool → Note → Option Note
noted test what = if test then Some what else None

-- the reader takes a part of what is written, as the deployment says itself or not
abbrev pub watcher : Lists → ℕ → Option Note
watcher d r = noted ((network_of d).watcher r) (if may_lose d r then note.MayLose r else note.Watcher r)

-- the reader has no limit of samples, no total, and not for each key that can reach it a bound
abbrev pub grows : Network → lists.Certificate → ℕ → Option Note
grows net cert r =
    noted
    ((is_none (net.reader_limits r).max_samples && is_none (instance_limit (net.reader_limits r)))
    && (is_none (total_of cert.totals r) && not (all_bounded net cert.bounds r)))
    (note.Unlimited r)

-- the limit of an instance is above the depth of KEEP_LAST, so it's never reached
abbrev pub idle_limit : Network → ℕ → Option Note
idle_limit net r = noted (is_over (net.reader_limits r).max_samples_per_instance (net.reader_limits r).keep_last) (note.IdleLimit r)

-- no sample can come to the reader
abbrev pub idle_reader : Network → ℕ → Option Note
idle_reader net r = noted (count_below net.keys (reach net r) == 0) (note.IdleReader r)

-- a rule writes the key at a writer of the topic
abbrev pub is_key_written : Lists → ℕ → ℕ → Bool
is_key_written d t k = any_below (network_of d).writers (λ w. (writer_topic d.writers w == t) && is_written (network_of d) w k)

-- the reader may lose samples, and its writers repeat to it what it refuses
abbrev pub stalled : Lists → ℕ → Option Note
stalled d r = noted (stalls d r) (note.Stalls r)

-- a rule without a pace feeds a reader of which the deployment says how soon it takes: the first of them
abbrev pub span_unused_by : Lists → ℕ → ℕ → Option Note
span_unused_by d r u = noted (is_span_unused d r u) (note.SpanUnused r u)

abbrev pub span_unused : Lists → ℕ → Option Note
span_unused d r = if is_some (taken_span d r) then first_below (network_of d).rules (span_unused_by d r) else None

-- the deployment says how soon a reader takes that may miss samples
abbrev pub watcher_span : Lists → ℕ → Option Note
watcher_span d r = noted (is_span_of_watcher d r) (note.WatcherSpan r)

-- no rule writes the key
abbrev pub unwritten_key : Lists → ℕ → ℕ → Option Note
unwritten_key d t k = noted (not (is_key_written d t k)) (note.UnwrittenKey t k)

-- no rule writes at the writer
abbrev pub idle_writer : Network → ℕ → Option Note
idle_writer net w = noted (count_below net.keys (is_written net w) == 0) (note.IdleWriter w)

-- rules write at the writer, and no reader matches it
abbrev pub unheard_writer : Network → ℕ → Option Note
unheard_writer net w = noted (is_unheard net w) (note.UnheardWriter w)

-- there is no rule
abbrev pub no_rules : Network → Option Note
no_rules net = noted (net.rules == 0) note.NoRules

-- there are rules, and none opens
abbrev pub no_start : Network → Option Note
no_start net = noted (nat_lt 0 net.rules && not (any_below net.rules (opens net))) note.NoStart

-- every reader may miss samples
abbrev pub no_strict_reader : Network → Option Note
no_strict_reader net = noted (not (any_below net.readers (λ r. not (net.watcher r)))) note.NoStrictReader

-- the rule takes something of which too little can come; or it takes nothing and doesn't open, and a rule that takes nothing never fires
abbrev pub is_stuck : Network → (ℕ → ℕ) → ℕ → Bool
is_stuck net limit u = if has_takes net u then limit u == 0 else not (opens net u)

-- the rule is stuck
abbrev pub stuck_rule : Network → (ℕ → ℕ) → ℕ → Option Note
stuck_rule net limit u = noted (is_stuck net limit u) (note.StuckRule u)

-- the two rules take a key of one reader
abbrev pub share_take : Network → ℕ → ℕ → Bool
share_take net u v = list_any (λ e. is_named (net.rule v).takes e.endpoint e.key) (net.rule u).takes

-- the rule competes with another one for a take
abbrev pub is_rival : Network → ℕ → ℕ → Bool
is_rival net u v = not (v == u) && share_take net u v

abbrev pub has_rival : Network → ℕ → Bool
has_rival net u = any_below net.rules (is_rival net u)

-- the rule can fire, but so often at most, and competes with no other
abbrev pub has_end : Network → (ℕ → ℕ) → ℕ → Bool
has_end net limit u = nat_lt 0 (limit u) && (nat_le (limit u) most_firings && not (has_rival net u))

-- the rule fires so often at most
abbrev pub stops : Network → (ℕ → ℕ) → ℕ → Option Note
stops net limit u = noted (has_end net limit u) (note.Stops u (limit u))

-- the rule has a start alone, and writes something that no rule lets be written again
abbrev pub finite : Network → ℕ → Option Note
finite net u = noted (is_finite net u) (note.Finite u)

-- the rule takes at a watcher, which may miss what it waits for
abbrev pub is_lossy : Network → ℕ → Bool
is_lossy net u = list_any (λ (e : Portion ℕ). net.watcher e.endpoint) (net.rule u).takes

abbrev pub lossy_take : Network → ℕ → Option Note
lossy_take net u = noted (is_lossy net u) (note.LossyTake u)

-- the pace of the rule bounds nothing
abbrev pub pace_unused : Lists → ℕ → Option Note
pace_unused d u = noted (is_pace_unused d u) (note.PaceUnused u)

-- the row shows no bound and no total
abbrev pub unused_row : lists.Certificate → ℕ → Option Note
unused_row cert n =
    noted (not (list_any (λ (b : Bound). b.row == n) cert.bounds || list_any (λ (t : Total). t.row == n) cert.totals)) (note.UnusedRow n)

-- the bound is for a watcher, or for a key that can't reach the reader: no condition asks it
abbrev pub needless_bound : Network → Bound → ℕ → Option Note
needless_bound net b i = noted (net.watcher b.reader || not (reach net b.reader b.key)) (note.NeedlessBound i)

-- the total is for a watcher, or for a reader that no key can reach
abbrev pub needless_total : Network → Total → ℕ → Option Note
needless_total net t i = noted (net.watcher t.reader || (count_below net.keys (reach net t.reader) == 0)) (note.NeedlessTotal i)

-- nothing but their policies keeps the two apart
abbrev pub incompatible : Lists → ℕ → ℕ → Option Note
incompatible d w r = noted (are_incompatible d w r) (note.Incompatible w r)

-- the writer keeps all within a limit, and waits for the reader
abbrev pub held_up : Lists → ℕ → ℕ → Option Note
held_up d w r = noted (is_held_up d w r) (note.HeldUp w r)

-- the reader gets nothing of the latched writer if it comes late
abbrev pub late_reader : Lists → ℕ → ℕ → Option Note
late_reader d w r = noted (comes_late d w r) (note.LateReader r w)

-- the keys of a topic that no rule writes
abbrev pub unwritten_keys : Lists → ℕ → List Note
unwritten_keys d t = those_below (length (keys_at d.topics t)) (unwritten_key d t)

-- of readers, of keys and writers, and of rules
abbrev pub reader_notes : Lists → lists.Certificate → List Note
reader_notes d cert =
    those_below (network_of d).readers (watcher d) ++ those_below (network_of d).readers (grows (network_of d) cert)
    ++ those_below (network_of d).readers (idle_limit (network_of d)) ++ those_below (network_of d).readers (idle_reader (network_of d))
    ++ those_below (network_of d).readers (stalled d)
    ++ those_below (network_of d).readers (span_unused d) ++ those_below (network_of d).readers (watcher_span d)

abbrev pub writer_notes : Lists → List Note
writer_notes d =
    every_below (length d.topics.entries) (unwritten_keys d) ++ those_below (network_of d).writers (idle_writer (network_of d))
    ++ those_below (network_of d).writers (unheard_writer (network_of d))

abbrev pub absent_notes : Network → List Note
absent_notes net = option_to_list (no_rules net) ++ option_to_list (no_start net) ++ option_to_list (no_strict_reader net)

abbrev pub rule_notes : Lists → (ℕ → ℕ) → List Note
rule_notes d limit =
    absent_notes (network_of d) ++ those_below (network_of d).rules (stuck_rule (network_of d) limit)
    ++ those_below (network_of d).rules (stops (network_of d) limit)
    ++ those_below (network_of d).rules (finite (network_of d)) ++ those_below (network_of d).rules (lossy_take (network_of d))
    ++ those_below (network_of d).rules (pace_unused d)

-- of the rows, the bounds and the totals of a certificate
abbrev pub certificate_notes : Network → lists.Certificate → List Note
certificate_notes net cert =
    those_below (length cert.rows) (unused_row cert) ++ those_in cert.bounds (needless_bound net) ++ those_in cert.totals (needless_total net)

-- of each pair, by writer and then by reader
abbrev pub notes_of_pairs : Network → (ℕ → ℕ → Option Note) → List Note
notes_of_pairs net f = every_below net.writers (λ w. those_below net.readers (f w))

-- of pairs
abbrev pub pair_notes : Lists → List Note
pair_notes d =
    notes_of_pairs (network_of d) (incompatible d) ++ notes_of_pairs (network_of d) (held_up d)
    ++ notes_of_pairs (network_of d) (late_reader d)

-- all notes, by how often each rule can fire
unfoldable pub all_notes : Lists → (ℕ → ℕ) → lists.Certificate → List Note
all_notes d limit cert =
    reader_notes d cert ++ writer_notes d ++ rule_notes d limit ++ certificate_notes (network_of d) cert ++ pair_notes d
