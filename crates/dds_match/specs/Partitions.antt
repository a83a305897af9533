-- When the partition names of a writer and a reader match (OMG DDS 1.4, clause 2.2.3.13). A pattern's `*` is byte 42, its `?` byte 63.
use Rattle.std.specs.Prelude.{ℕ, Bool, true, false, not, ◌&&◌, ◌||◌, ◌==◌, List, [], ◌∷◌, if◌then◌else◌}
use Rattle.std.specs.List.{list_any}
use Rattle.std.specs.Str.{bytes_eq}

-- the right parts of the cuts of a name: the whole name, the name without its first byte, .., the empty run
abbrev pub right_parts : List ℕ → List (List ℕ)
right_parts [] = [] ∷ []
right_parts (b ∷ bs) = (b ∷ bs) ∷ right_parts bs

-- the first byte passes the first test, and what follows it the second
abbrev pub begins : (ℕ → Bool) → (List ℕ → Bool) → List ℕ → Bool
begins is_first has_rest [] = false
begins is_first has_rest (b ∷ bs) = is_first b && has_rest bs

-- the run has no byte
abbrev pub is_empty : List ℕ → Bool
is_empty [] = true
is_empty (b ∷ bs) = false

-- a name against a pattern, by cases on the pattern. The empty pattern has the empty name; `*` followed by a rest has some cut
-- of the name whose right part the rest has; `?` has one byte and then the rest; any other byte has itself and then the rest
unfoldable pub name_matches : List ℕ → List ℕ → Bool
name_matches [] name = is_empty name
name_matches (c ∷ rest) name =
    if c == 42 then list_any (name_matches rest) (right_parts name) else begins (λ b. c == 63 || c == b) (name_matches rest) name

-- the name has a `*` or a `?`
abbrev pub is_pattern : List ℕ → Bool
is_pattern name = list_any (λ b. b == 42 || b == 63) name

-- equal where neither is a pattern, by the pattern where exactly one is, never where both are
unfoldable pub names_match : List ℕ → List ℕ → Bool
names_match x y =
    if is_pattern x then not (is_pattern y) && name_matches x y else (if is_pattern y then name_matches y x else bytes_eq x y)

-- an empty list counts as one empty name
abbrev pub partition_names : List (List ℕ) → List (List ℕ)
partition_names [] = [] ∷ []
partition_names (name ∷ names) = name ∷ names

-- some name of one list matches some name of the other
unfoldable pub lists_match : List (List ℕ) → List (List ℕ) → Bool
lists_match xs ys = list_any (λ x. list_any (names_match x) (partition_names ys)) (partition_names xs)
