-- What a yes doesn't say, in words.
use Rattle.std.specs.Prelude.{ℕ, Bool, false, ◌==◌, if◌then◌else◌, codes, List, [], ◌++◌, flat_map, length, slice_get}
use Rattle.std.specs.Fmt.{decimal}
use Rattle.std.specs.Option.{option_map_or}
use Rattle.dds_lists.specs.Lists.{Lists, Rule, key_name}
use Rattle.dds_lists.specs.declared.lists.Origin.{Origin}
use Rattle.dds_match.specs.Matching.{why_not}
use Rattle.dds_match.specs.Plan.{network_of}
use Rattle.dds_weights.specs.Lists.{Certificate}
use Rattle.dds_text.specs.Names.{name_at, reader_key, reader_name, rule_text, writer_name}
use Rattle.dds_weights.specs.Naming.{row_name}
use Rattle.dds_weights.specs.declared.certificate.Bound.{Bound}
use Rattle.dds_weights.specs.declared.certificate.Total.{Total}
use Rattle.dds_show.specs.Reasons.{reason_words}
use Rattle.dds_lint.specs.Firings.{limits_of}
use Rattle.dds_lint.specs.Notes.{all_notes}
use Rattle.dds_lint.specs.declared.endless.EndlessRule.{EndlessRule}
use Rattle.dds_lint.specs.declared.notes.Note.{Note}
use Rattle.dds_lint.specs.declared.notes.Note.TheVariants as note
use Rattle.dds_explain.specs.Pairs.{mismatch_lines}

-- the rule is there, and takes nothing
abbrev pub takes_nothing : Lists → ℕ → Bool
takes_nothing d u = option_map_or (λ (x : Rule). length x.takes == 0) (slice_get d.rules.entries u) false

-- a rule that never lets anything be written
abbrev pub stuck_words : Lists → ℕ → List ℕ
stuck_words d u =
    if takes_nothing d u then rule_text d u ++ codes " takes nothing and has no start, so it never lets anything be written" else
    rule_text d u ++ codes " can never fire: too little of what it takes can come"

-- a rule that fires so often at most
abbrev pub times : ℕ → List ℕ
times n = if n == 1 then codes " time" else codes " times"

abbrev pub stops_words : Lists → (u n : ℕ) → List ℕ
stops_words d u n = rule_text d u ++ (codes " stops: it can't fire more than " ++ (decimal n ++ times n))

-- a key that no rule writes
abbrev pub unwritten_words : Lists → ℕ → ℕ → List ℕ
unwritten_words d t k = codes "no rule writes " ++ (key_name d.topics t k ++ (codes " of topic " ++ name_at d.topics.names t))

-- a bound and a total that nothing needs
abbrev pub bound_words : Lists → Bound → List ℕ
bound_words d b = codes "nothing needs the bound of " ++ (reader_key d b.reader b.key ++ (codes " at " ++ reader_name d b.reader))

abbrev pub total_words : Lists → Total → List ℕ
total_words d t = codes "nothing needs the total of " ++ reader_name d t.reader

-- a writer that waits
abbrev pub held_up_words : Lists → ℕ → ℕ → List ℕ
held_up_words d w r = writer_name d w ++ (codes " keeps all within a limit, so it waits where " ++ (reader_name d r ++ codes " is slow"))

-- a rule that takes at a watcher
abbrev pub lossy_words : Lists → ℕ → List ℕ
lossy_words d u = rule_text d u ++ codes " takes at a reader that may miss samples, and may wait for one for ever"

-- a rule that writes without end to a reader with a limit
abbrev pub endless_text : Lists → EndlessRule → List ℕ
endless_text d e = rule_text d e.rule ++ (codes " writes whatever was taken, so no bound holds at " ++ reader_name d e.reader)

-- a rule that has a start alone
abbrev pub finite_words : Lists → ℕ → List ℕ
finite_words d u = rule_text d u ++ codes " takes nothing, so it writes no more once its start is used up"

-- a pair whose policies don't agree
abbrev pub incompatible_words : Lists → ℕ → ℕ → List ℕ
incompatible_words d w r =
    writer_name d w ++ (codes " and " ++ (reader_name d r ++ (codes " don't match: " ++ option_map_or reason_words (why_not d w r) [])))

-- a reader that may lose samples and is sent again what it refuses
abbrev pub stalls_words : Lists → ℕ → List ℕ
stalls_words d r = reader_name d r ++ codes " is RELIABLE, so what it refuses when it's full is sent again and again, and other readers may wait"

-- a reader that takes soon what a rule without a pace writes
abbrev pub span_words : Lists → ℕ → ℕ → List ℕ
span_words d r u = rule_text d u ++ (codes " has no period, so taken_within of " ++ (reader_name d r ++ codes " bounds nothing that it writes"))

-- a watcher that takes soon
abbrev pub watcher_span_words : Lists → ℕ → List ℕ
watcher_span_words d r = reader_name d r ++ codes " may miss samples, so nothing needs its taken_within"

-- a rule with a pace that bounds nothing
abbrev pub pace_words : Lists → ℕ → List ℕ
pace_words d u = codes "nothing needs the period of " ++ (rule_text d u ++ codes ": no strict reader that hears it has taken_within")

-- a reader that comes too late for what a writer wrote
abbrev pub late_words : Lists → ℕ → ℕ → List ℕ
late_words d r w = reader_name d r ++ (codes " is VOLATILE, and gets nothing that " ++ (writer_name d w ++ codes " writes before the two match"))

-- a note in words
abbrev pub note_text : Lists → Certificate → Note → List ℕ
note_text d c (note.Watcher r) = reader_name d r ++ codes " may miss samples, and a yes says nothing of that"
note_text d c (note.MayLose r) = reader_name d r ++ codes " may miss samples, and a yes says nothing of that"
note_text d c (note.Unlimited r) = reader_name d r ++ codes " has no limit, and no bound says how much it may store"
note_text d c (note.IdleLimit r) = reader_name d r ++ codes " never reaches max_samples_per_instance: its depth is lower"
note_text d c (note.IdleReader r) = codes "no sample can come to " ++ reader_name d r
note_text d c (note.Stalls r) = stalls_words d r
note_text d c (note.SpanUnused r u) = span_words d r u
note_text d c (note.WatcherSpan r) = watcher_span_words d r
note_text d c (note.UnwrittenKey t k) = unwritten_words d t k
note_text d c (note.IdleWriter w) = codes "no rule writes at " ++ writer_name d w
note_text d c (note.UnheardWriter w) = codes "no reader matches " ++ writer_name d w
note_text d c note.NoRules = codes "there's no rule, so nothing is ever written"
note_text d c note.NoStart = codes "no rule has a start, so nothing is ever written"
note_text d c note.NoStrictReader = codes "no reader is strict, so a yes says nothing of lost samples"
note_text d c (note.StuckRule u) = stuck_words d u
note_text d c (note.Stops u n) = stops_words d u n
note_text d c (note.Finite u) = finite_words d u
note_text d c (note.LossyTake u) = lossy_words d u
note_text d c (note.PaceUnused u) = pace_words d u
note_text d c (note.UnusedRow n) = codes "no bound and no total names row " ++ row_name c n
note_text d c (note.NeedlessBound i) = option_map_or (bound_words d) (slice_get c.bounds i) []
note_text d c (note.NeedlessTotal i) = option_map_or (total_words d) (slice_get c.totals i) []
note_text d c (note.Incompatible w r) = incompatible_words d w r
note_text d c (note.HeldUp w r) = held_up_words d w r
note_text d c (note.LateReader r w) = late_words d r w

-- its terms, a line each: of policies that don't agree what is offered and what is requested
abbrev pub note_terms : Lists → Note → List ℕ
note_terms d (note.Incompatible w r) = mismatch_lines d w r
note_terms d _ = []

-- the name of a rule's entry, where it stands for one rule or for several
abbrev pub entry_name : Lists → ℕ → List ℕ
entry_name d u = option_map_or (λ (o : Origin). name_at d.rules.names o.name) (slice_get d.rules.origins u) []

-- the name of what a note is about: nothing, where it's about the whole deployment, or about an entry that has no name
abbrev pub note_subject : Lists → Certificate → Note → List ℕ
note_subject d c (note.Watcher r) = reader_name d r
note_subject d c (note.MayLose r) = reader_name d r
note_subject d c (note.Unlimited r) = reader_name d r
note_subject d c (note.IdleLimit r) = reader_name d r
note_subject d c (note.IdleReader r) = reader_name d r
note_subject d c (note.Stalls r) = reader_name d r
note_subject d c (note.SpanUnused r u) = reader_name d r
note_subject d c (note.WatcherSpan r) = reader_name d r
note_subject d c (note.UnwrittenKey t k) = name_at d.topics.names t
note_subject d c (note.IdleWriter w) = writer_name d w
note_subject d c (note.UnheardWriter w) = writer_name d w
note_subject d c note.NoRules = []
note_subject d c note.NoStart = []
note_subject d c note.NoStrictReader = []
note_subject d c (note.StuckRule u) = entry_name d u
note_subject d c (note.Stops u n) = entry_name d u
note_subject d c (note.Finite u) = entry_name d u
note_subject d c (note.LossyTake u) = entry_name d u
note_subject d c (note.PaceUnused u) = entry_name d u
note_subject d c (note.UnusedRow n) = row_name c n
note_subject d c (note.NeedlessBound i) = []
note_subject d c (note.NeedlessTotal i) = []
note_subject d c (note.Incompatible w r) = writer_name d w
note_subject d c (note.HeldUp w r) = writer_name d w
note_subject d c (note.LateReader r w) = reader_name d r

-- the line of a note, and those of its terms
abbrev pub note_line : Lists → Certificate → Note → List ℕ
note_line d c x = codes "note: " ++ (note_text d c x ++ (codes "\n" ++ note_terms d x))

-- the lines of all notes on a deployment and a certificate
unfoldable pub note_lines : Lists → Certificate → List ℕ
note_lines d c = flat_map (note_line d c) (all_notes d (limits_of (network_of d)) c)
