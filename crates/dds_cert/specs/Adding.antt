-- Adding an endpoint with keys to a list that does not name them yet.
use Rattle.std.specs.Prelude.{ℕ, ◌+◌, Bool, List, ◌++◌, length, Ok, not, nat_le}
use Rattle.std.specs.List.{list_any}
use Rattle.dds_base.specs.Grid.{most_places}
use Rattle.dds_fields.specs.declared.fault.FaultKind.TheVariants.{Duplicate, TooMany}
use Rattle.dds_fields.specs.Reading.{◌>>=◌, Read, unless}
use Rattle.dds_base.specs.Pairs.{stands}

-- one of these pairs is of the endpoint and one of the keys
abbrev pub any_stands : List (ℕ × ℕ) → ℕ → List ℕ → Bool
any_stands pairs e ks = list_any (λ k. stands pairs e k) ks

-- a fault at the entry where an endpoint and key would stand twice, and then at the list where there would be more than 16,384 in
-- all. There are at most 256 writers, 256 readers and 64 keys of a topic, so a list that names nothing twice never has more
unfoldable pub may_add : (list path : List ℕ) (is_double : Bool) (count : ℕ) → Read (Unit {0})
may_add list path is_double count = do
  _ ← unless Duplicate path (not is_double) (tt {0})
  unless TooMany list (nat_le count most_places) (tt {0})

-- the list with more in it, where they may stand there
unfoldable pub and_more : {A : Type 0} (list path : List ℕ) (is_double : Bool) (before more : List A) → Read (List A)
and_more list path is_double before more = do
  _ ← may_add list path is_double (length before + length more)
  Ok (before ++ more)
