-- Pieces of a deployment's JSON. Names and partitions have no byte that JSON escapes.
use Rattle.std.specs.Prelude.{codes, ℕ, List, [], ◌++◌, Option, length}
use Rattle.std.specs.Fmt.{decimal}
use Rattle.dds_text.specs.Names.{name_at}
use Rattle.dds_text.specs.Texts.{each_below, number_or, start_of}
use Rattle.dds_qos.specs.declared.policies.Duration.{Duration}
use Rattle.dds_qos.specs.declared.policies.Duration.TheVariants.{Nanoseconds, Infinite}

-- a text in quotes
abbrev pub quoted : List ℕ → List ℕ
quoted text = codes "\"" ++ (text ++ codes "\"")

-- what stands before the item at this place of a list in one line
abbrev pub comma : ℕ → List ℕ
comma i = start_of [] (codes ", ") i

-- the same of a section, whose entries have lines of their own
abbrev pub line_start : ℕ → List ℕ
line_start i = start_of (codes "\n    ") (codes ",\n    ") i

-- a name of a list, in quotes
abbrev pub name_item : List (List ℕ) → ℕ → List ℕ
name_item names i = comma i ++ quoted (name_at names i)

-- names in quotes
abbrev pub name_items : List (List ℕ) → List ℕ
name_items names = each_below (length names) (name_item names)

-- a length of time: nanoseconds, or "infinite"
abbrev pub duration_text : Duration → List ℕ
duration_text (Nanoseconds n) = decimal n
duration_text Infinite = codes "\"infinite\""

-- a limit: a number, or "unlimited"
abbrev pub limit_text : Option ℕ → List ℕ
limit_text limit = number_or limit (codes "\"unlimited\"")
