-- Lengths of time as people read them.
use Rattle.std.specs.Prelude.{ℕ, ◌%◌, ◌/◌, ◌==◌, if◌then◌else◌, codes, List, ◌++◌}
use Rattle.std.specs.Fmt.{decimal}

-- so many nanoseconds, in the greatest unit that makes them a whole number
abbrev pub time_text : ℕ → List ℕ
time_text n =
    if n % 1000000000 == 0 then decimal (n / 1000000000) ++ codes " s" else
    (if n % 1000000 == 0 then decimal (n / 1000000) ++ codes " ms" else
    (if n % 1000 == 0 then decimal (n / 1000) ++ codes " us" else decimal n ++ codes " ns"))
