-- Counts that are each raised by their owner alone, and what the seats have seen of them.
use Rattle.std.specs.Prelude.{◌≡◌, ◌^◌, ℕ, zero, suc, ◌+◌, ◌<◌, ◌≤◌, Option, Some, None, nat_lt, if◌then◌else◌, List, [], ◌∷◌, length, slice_index}
use mathlib.Core.Option.{some}
use lib.ListN.{get_elem?}
use Rattle.atomic_table.specs.Seated.{TableId}
use Rattle.atomic_table.specs.Table.{State, Me, Step}
use Rattle.dds_book.specs.declared.gauge.GaugeView.{GaugeView}

-- ── what contracts see
-- which gauge it is, and how many applications it has
pub record GaugeState : Type 0 where
  pub table : TableId
  pub apps : ℕ

-- the gauge of a seat, the application whose count it owns, that count, and what it has read of each application, by number
pub record GaugeSeatState : Type 0 where
  pub table : TableId
  pub owner : Option ℕ
  pub count : ℕ
  pub seen : List ℕ

-- what was read of an application, 0 at first
abbrev pub seen_at : List ℕ → ℕ → ℕ
seen_at seen app = slice_index seen app

-- a new seat: its count is 0, and it has read nothing
abbrev pub seat_of : TableId → Option ℕ → GaugeSeatState
seat_of table owner = record { table = table; owner = owner; count = 0; seen = [] }

-- the new seat at a place: those of the applications come first, and own a count each
abbrev pub fresh_seat : TableId → ℕ → ℕ → GaugeSeatState
fresh_seat table apps place = seat_of table (if nat_lt place apps then Some place else None)

-- ── the rule of the table
-- a view that owns the words from one number to before another, each of this count, and has read these values
abbrev pub view_of : ℕ → ℕ → ℕ → List ℕ → GaugeView
view_of from to count seen = record { from = from; to = to; count = count; seen = seen }

-- what was read, after the value n was read of an application
abbrev pub note : ℕ → ℕ → List ℕ → List ℕ
note zero n [] = n ∷ []
note zero n (x ∷ xs) = n ∷ xs
note (suc app) n [] = 0 ∷ note app n []
note (suc app) n (x ∷ xs) = x ∷ note app n xs

-- the view owns the word
abbrev pub Owns : GaugeView → ℕ → Type 0
Owns v a = (v.from ≤ a) × (a < v.to)

-- A word equals the count of the view that owns it, no two views own one word, and no value that was read is above its word
pub record IsGauge (apps : ℕ) (s : State (Unit {0}) GaugeView) : Type 0 where
  pub width : length s.words ≡ apps + 1
  pub counts : (i : ℕ) (v : GaugeView) (a : ℕ) → get_elem? s.views i ≡ some v → Owns v a → slice_index s.words a ≡ v.count
  pub apart : (i j : ℕ) (v w : GaugeView) (a : ℕ) → get_elem? s.views i ≡ some v → get_elem? s.views j ≡ some w → Owns v a → Owns w a → i ≡ j
  pub below : (i : ℕ) (v : GaugeView) (a : ℕ) → get_elem? s.views i ≡ some v → seen_at v.seen a ≤ slice_index s.words a

-- what the maker of the seats keeps when it gives a word to the next owner: it owns every word that no owner has yet
abbrev pub without_next : GaugeView → GaugeView
without_next v = view_of (v.from + 1) v.to v.count v.seen

-- what the next owner gets
abbrev pub next_owner : GaugeView → GaugeView
next_owner v = view_of v.from (v.from + 1) v.count []

-- what a seat gets that owns nothing
abbrev pub only_reads : GaugeView → GaugeView
only_reads _ = view_of 0 0 0 []

-- a view, with the slots that its seat holds: a gauge has none
abbrev Held : Type 0
Held = Me (Unit {0}) GaugeView

-- the owner's count was found, and is one more
abbrev pub bumped : Step (Unit {0}) → Held → ℕ → Held → Type 0
bumped step me n me' = (n ≡ me.0.count) × (me'.0 ≡ view_of me.0.from me.0.to (me.0.count + 1) me.0.seen)

-- the word was found, and it isn't below what was read before
abbrev pub looked : Step (Unit {0}) → Held → ℕ → Held → Type 0
looked step me n me' =
    (seen_at me.0.seen step.word ≤ n)
    × (Owns me.0 step.word → n ≡ me.0.count)
    × (me'.0 ≡ view_of me.0.from me.0.to me.0.count (note step.word n me.0.seen))

-- what a seat of a gauge of so many words keeps beside its view. The last word is no application's
abbrev pub IsSeated : ℕ → Option ℕ → ℕ → GaugeView → Type 0
IsSeated words (Some app) count v = (v.from ≡ app) × (v.to ≡ app + 1) × (v.count ≡ count) × (count < 2 ^ 63) × (app + 1 < words)
IsSeated words None count v = count ≡ 0
