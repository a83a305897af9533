-- When a trace with times keeps the clocks of a deployment: no write comes too soon for a span of a reader, and no sample waits too long.
use Rattle.std.specs.Prelude.{◌≡◌, ℕ, ◌+◌, ◌<◌, ◌≤◌, Bool, true, false, ◌==◌, ◌&&◌, List, Option, Some, count_by, length, slice_get, slice_index, take}
use Rattle.dds_lists.specs.Lists.{Lists}
use Rattle.dds_match.specs.Paces.{available_span, in_flight, is_awaited, taken_span}
use Rattle.dds_conform.specs.declared.actions.Entry.{Entry}
use Rattle.dds_conform.specs.declared.actions.Entry.TheVariants.{Wrote, Took}
use Rattle.dds_conform.specs.declared.conformance.Early.{Early}
use Rattle.dds_conform.specs.declared.conformance.Late.{Late}
use Rattle.dds_conform.specs.declared.conformance.Within.{Within}
use Rattle.dds_conform.specs.declared.conformance.Within.TheVariants.{Taken, Available}
use Rattle.dds_conform.specs.Entries.{entry_line}

-- how soon after its write each sample is to be taken at the reader, or to be available there; none where that isn't said
abbrev pub span_of : Lists → ℕ → Within → Option ℕ
span_of d r Taken = taken_span d r
span_of d r Available = available_span d r

-- ── entries
-- a write of the key at the writer
abbrev pub wrote : ℕ → ℕ → Entry → Bool
wrote w k (Wrote n a v l) = (v == w) && (l == k)
wrote w k (Took n a q l) = false

-- a write of the key that the reader has to take
abbrev pub heard : Lists → ℕ → ℕ → Entry → Bool
heard d r k (Wrote n a w l) = (l == k) && is_awaited d w r l
heard d r k (Took n a q l) = false

-- the trace says when a sample no longer waits. Of no sample it says that it's available, so nothing is asked of that
abbrev pub says_end : Within → Bool
says_end Taken = true
says_end Available = false

-- what a written sample of the key waits for at the reader: that it's taken
abbrev pub ends : Within → ℕ → ℕ → Entry → Bool
ends within r k (Wrote n a w l) = false
ends within r k (Took n a q l) = (l == k) && (says_end within && (q == r))

-- how many of the first n entries pass
abbrev pub count_in : (Entry → Bool) → ℕ → List Entry → ℕ
count_in p n es = count_by p (take n es)

-- ── what is kept
-- no time is before the one ahead of it
abbrev pub NeverFall : List ℕ → Type 0
NeverFall ts = (i j : ℕ) → i ≤ j → j < length ts → slice_index ts i ≤ slice_index ts j

-- where the entry at this place is a write: from each earlier entry on that lies within the reader's span, fewer samples of the key were written at the
-- writer than may be in flight. (A pair of which none may be is written by no rule, so it has no permits.)
abbrev pub KeepsPace : Lists → List Entry → List ℕ → ℕ → Within → ℕ → Type 0
KeepsPace d es ts r within i = (e : Entry) (w k span n j : ℕ) → slice_get es i ≡ Some e → wrote w k e ≡ true → span_of d r within ≡ Some span → in_flight d w r k (Some span) ≡ Some n → 0 < n → j < i
    → slice_index ts i ≤ slice_index ts j + span → count_in (wrote w k) i es < count_in (wrote w k) j es + n

-- each sample written longer ago than the reader's span no longer waits: a reader takes the samples of a key in the order of their writes, so as many waits
-- have ended before the entry at this place as samples of the key were written up to it
abbrev pub KeepsAge : Lists → List Entry → List ℕ → ℕ → Within → ℕ → Type 0
KeepsAge d es ts r within i = (e : Entry) (k span p : ℕ) → slice_get es p ≡ Some e → heard d r k e ≡ true → span_of d r within ≡ Some span → says_end within ≡ true
    → slice_index ts p + span < slice_index ts i → count_in (heard d r k) (p + 1) es ≤ count_in (ends within r k) i es

-- up to an entry, each entry keeps the paces and ages of all readers
abbrev pub KeepsClocks : Lists → List Entry → List ℕ → ℕ → Type 0
KeepsClocks d es ts n = (i r : ℕ) (within : Within) → i < n → KeepsPace d es ts r within i × KeepsAge d es ts r within i

-- ── what breaks them
-- the entry at this place is a write that comes too soon: the one that is as many writes of the pair before it as may be in flight lies within the span
pub record IsTooSoon (d : Lists) (es : List Entry) (ts : List ℕ) (place : ℕ) (x : Early) : Type 0 where
  pub entry : Entry
  pub at : slice_get es place ≡ Some entry
  pub line : entry_line entry ≡ x.line
  pub write : wrote x.writer x.key entry ≡ true
  pub span : ℕ
  pub of : span_of d x.reader x.within ≡ Some span
  pub most : ℕ
  pub flight : in_flight d x.writer x.reader x.key (Some span) ≡ Some most
  pub some : 0 < most
  pub first : ℕ
  pub before : first < place
  pub counted : count_in (wrote x.writer x.key) place es ≡ count_in (wrote x.writer x.key) first es + most
  pub by : slice_index ts place + x.by ≡ slice_index ts first + span + 1
  pub early : 0 < x.by

-- the entry at this place comes later than a sample may wait, which was written in a line that is named: the first of the key that waits
pub record IsTooLate (d : Lists) (es : List Entry) (ts : List ℕ) (place : ℕ) (x : Late) : Type 0 where
  pub entry : Entry
  pub at : slice_get es place ≡ Some entry
  pub line : entry_line entry ≡ x.line
  pub sample : ℕ
  pub write : Entry
  pub written_at : slice_get es sample ≡ Some write
  pub written : entry_line write ≡ x.written
  pub awaited : heard d x.reader x.key write ≡ true
  pub span : ℕ
  pub of : span_of d x.reader x.within ≡ Some span
  pub says : says_end x.within ≡ true
  pub next : count_in (heard d x.reader x.key) sample es ≡ count_in (ends x.within x.reader x.key) place es
  pub by : slice_index ts sample + span + x.by ≡ slice_index ts place
  pub late : 0 < x.by
