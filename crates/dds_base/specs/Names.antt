-- What a name is, and the number that a name has in a list of names.
use Rattle.std.specs.Prelude.{◌≡◌, ℕ, Bool, not, ◌&&◌, ◌||◌, List, length, position, nat_le, ◌==◌, Option, Some, None, is_some, if◌then◌else◌}
use Rattle.std.specs.List.{list_all}
use Rattle.std.specs.Str.{bytes_eq}
use Rattle.dds_base.specs.Limits.{most_name_bytes}
use Rattle.dds_base.specs.declared.names.NameFault.{NameFault}
use Rattle.dds_base.specs.declared.names.NameFault.TheVariants.{Duplicate, BadName, TooMany, NoMemory}

-- the number is one of low to high
abbrev pub is_between : ℕ → ℕ → ℕ → Bool
is_between low high n = nat_le low n && nat_le n high

-- an ASCII letter, a digit, or one of `_ . / -`
abbrev pub is_name_byte : ℕ → Bool
is_name_byte b =
    (is_between 97 122 b || is_between 65 90 b) || (is_between 48 57 b || ((b == 95 || b == 46) || (b == 47 || b == 45)))

-- 1 to 64 bytes of the alphabet
abbrev pub is_name : List ℕ → Bool
is_name bytes = is_between 1 most_name_bytes (length bytes) && list_all is_name_byte bytes

-- the place of a name in the list
abbrev pub number_of : List (List ℕ) → List ℕ → Option ℕ
number_of names name = position (bytes_eq name) names

-- why a name is not added, in this order
abbrev pub refusal : ℕ → List (List ℕ) → List ℕ → Option NameFault
refusal limit names name =
    if is_some (number_of names name) then Some Duplicate else
    (if not (is_name name) then Some BadName else
    (if nat_le limit (length names) then Some TooMany else None))

-- the fault is the one that the names give, or memory ran out for a name that they do not refuse
abbrev pub IsRefused : Option NameFault → NameFault → Type 0
IsRefused None fault = fault ≡ NoMemory
IsRefused (Some f) fault = fault ≡ f
