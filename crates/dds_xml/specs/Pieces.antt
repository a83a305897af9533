-- Pieces of a deployment's XML: lengths of time, limits and libraries. Their words come from the IDL (OMG DDS 1.4, clause 2.3.3).
use Rattle.std.specs.Prelude.{codes, ℕ, List, ◌++◌, ◌/◌, ◌%◌, Option}
use Rattle.std.specs.Fmt.{decimal}
use Rattle.dds_qos.specs.declared.policies.Duration.{Duration}
use Rattle.dds_qos.specs.declared.policies.Duration.TheVariants.{Nanoseconds, Infinite}
use Rattle.dds_text.specs.Texts.{number_or}

-- the whole seconds of a length of time
abbrev pub seconds_text : Duration → List ℕ
seconds_text (Nanoseconds n) = decimal (n / 1000000000)
seconds_text Infinite = codes "DURATION_INFINITE_SEC"

-- the nanoseconds of a length of time beyond its whole seconds
abbrev pub nanoseconds_text : Duration → List ℕ
nanoseconds_text (Nanoseconds n) = decimal (n % 1000000000)
nanoseconds_text Infinite = codes "DURATION_INFINITE_NSEC"

-- a length of time
abbrev pub duration_element : List ℕ → Duration → List ℕ
duration_element name x =
    codes "          <" ++ (name ++ (codes ">\n            <sec>" ++ (seconds_text x ++ (codes "</sec>\n            <nanosec>" ++ (nanoseconds_text x
    ++ (codes "</nanosec>\n          </" ++ (name ++ codes ">\n")))))))

-- a limit: a number, or that there is none
abbrev pub limit_text : Option ℕ → List ℕ
limit_text limit = number_or limit (codes "LENGTH_UNLIMITED")

-- a limit of what is kept
abbrev pub limit_element : List ℕ → Option ℕ → List ℕ
limit_element name limit = codes "          <" ++ (name ++ (codes ">" ++ (limit_text limit ++ (codes "</" ++ (name ++ codes ">\n")))))

-- entries in the library of this kind and name
abbrev pub library : List ℕ → List ℕ → List ℕ → List ℕ
library kind name entries = codes "  <" ++ (kind ++ (codes " name=\"" ++ (name ++ (codes "\">\n" ++ (entries ++ (codes "  </" ++ (kind ++ codes ">\n")))))))
