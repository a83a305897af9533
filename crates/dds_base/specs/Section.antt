-- Entries with their names.
use Rattle.std.specs.Prelude.{ℕ, List, [], ◌∷◌, ◌++◌, map}
use Rattle.dds_base.specs.declared.section.Section.{Section}

-- the entries of a section with their names: the number of a name is the place of both
pub record Listed (A : Type 0) : Type 0 where
  pub names : List (List ℕ)
  pub entries : List A

abbrev pub nothing : {A : Type 0} → Listed A
nothing = record { names = []; entries = [] }

abbrev pub and_entry : {A : Type 0} → Listed A → List ℕ → A → Listed A
and_entry all name entry = record { names = all.names ++ name ∷ []; entries = all.entries ++ entry ∷ [] }

-- what a section of the code stands for
abbrev pub listed : {T A : Type 0} → (T → A) → Section T → Listed A
listed view s = record { names = s.names; entries = map view s.entries.items }
