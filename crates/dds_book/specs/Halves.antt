-- Two halves of one front, and the rule of the table that keeps them equal.
use Rattle.std.specs.Prelude.{◌≡◌, ℕ, ◌+◌, ◌<◌, List, [], ◌∷◌, length, slice_index, ◌==◌}
use Rattle.std.specs.List.{count_by}
use mathlib.Core.Option.{some}
use lib.ListN.{get_elem?}
use Rattle.atomic_table.specs.Seated.{TableId}
use Rattle.atomic_table.specs.Table.{State, Me, Step}
use Rattle.dds_book.specs.declared.halves.PairView.{PairView}

-- what a contract sees of a half: the table of its pair, and its front
pub record HalfState (E : Type 0) : Type 0 where
  pub table : TableId
  pub front : List E

-- what a contract sees of the other half: the table, the owner whose entries the table counts, and the front
pub record HolderState (E : Type 0) : Type 0 where
  pub table : TableId
  pub owner : ℕ
  pub front : List E

-- a view, with the slots that its seat holds: a pair has none
abbrev Held : Type 0 → Type 0
Held E = Me (Unit {0}) (PairView E)

module _ {E : Type 0} where
  -- the half of this table with this front
  abbrev pub half_of : TableId → List E → HalfState E
  half_of table front = record { table = table; front = front }

  -- the holder of this table with this front
  abbrev pub holder_of : TableId → ℕ → List E → HolderState E
  holder_of table owner front = record { table = table; owner = owner; front = front }

  -- a view with so many parts, its front, and the front beside it
  abbrev pub view_of : ℕ → List E → List E → PairView E
  view_of parts front beside = record { parts = parts; front = front; beside = beside }

  -- the whole of a pair with this front
  abbrev pub whole : List E → PairView E
  whole front = view_of 2 front front

  -- a half of a view
  abbrev pub half : PairView E → PairView E
  half v = view_of 1 v.front v.front

  -- what is left of a view that was joined to another
  abbrev pub spent : PairView E
  spent = view_of 0 [] []

  -- two views in one: the parts of both, the front of the first, and beside it that of the second
  abbrev pub both : PairView E → PairView E → PairView E
  both v w = view_of (v.parts + w.parts) v.front w.front

  -- the front of the view that is in its place
  abbrev pub front_in : List (PairView E) → List E
  front_in [] = []
  front_in (v ∷ vs) = v.front

  -- there is one view, and it has a part
  abbrev pub IsHeld : List (PairView E) → Type 0
  IsHeld views = (v : PairView E) × (views ≡ v ∷ []) × (0 < v.parts)

  -- the parts of all views
  abbrev pub parts_of : List (PairView E) → ℕ
  parts_of [] = 0
  parts_of (v ∷ vs) = v.parts + parts_of vs

  -- how many entries are this owner's
  abbrev pub entries_by : (E → ℕ) → ℕ → List E → ℕ
  entries_by owner by entries = count_by (λ e. owner e == by) entries

  -- There is one front, and the word counts the owner's entries in it. The views have two parts in all, so they are one whole or two halves, and
  -- each that has a part has that front
  pub record IsPair (owner : E → ℕ) (by : ℕ) (s : State (Unit {0}) (PairView E)) : Type 0 where
    pub entries : List E
    pub one_word : length s.words ≡ 1
    pub counted : slice_index s.words 0 ≡ entries_by owner by entries
    pub parts : parts_of s.views ≡ 2
    pub fits : (i : ℕ) (v : PairView E) → get_elem? s.views i ≡ some v → 0 < v.parts → (v.front ≡ entries) × (v.beside ≡ entries)

  -- the two fronts that were joined were equal, and the front is now this one
  abbrev pub grown : List E → Step (Unit {0}) → Held E → ℕ → Held E → Type 0
  grown front step me n me' = (me.0.front ≡ me.0.beside) × (me'.0 ≡ whole front) × (me'.1 ≡ me.1)

  -- the two fronts that were joined were equal, and nothing has changed
  abbrev pub compared : Step (Unit {0}) → Held E → ℕ → Held E → Type 0
  compared step me n me' = (me.0.front ≡ me.0.beside) × (me' ≡ me)
