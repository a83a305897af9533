-- Pieces of a reason: names, limits, and terms of sums.
use Rattle.std.specs.Prelude.{codes, ℕ, List, ◌++◌, Option}
use Rattle.std.specs.Fmt.{decimal}
use Rattle.std.specs.Option.{option_map_or}
use Rattle.dds_qos.specs.declared.limits.ReaderLimits.{ReaderLimits}
use Rattle.dds_text.specs.Texts.{number_or}

-- a limit: a number, or "unlimited"
abbrev pub limit_text : Option ℕ → List ℕ
limit_text limit = number_or limit (codes "unlimited")

-- the policy that limits the samples of one instance: the depth of KEEP_LAST, else max_samples_per_instance (DDS 1.4, clause 2.2.3)
abbrev pub instance_limit_name : ReaderLimits → List ℕ
instance_limit_name limits = option_map_or (λ depth. codes "depth") limits.keep_last (codes "max_samples_per_instance")

-- a key in a line of its own
abbrev pub key_line : List ℕ → List ℕ
key_line key = codes "  " ++ (key ++ codes "\n")

-- a term of a weighed sum: so many of a key at an endpoint, each of this weight
abbrev pub weighed_term : List ℕ → ℕ → ℕ → List ℕ → List ℕ → List ℕ
weighed_term what count weight key endpoint =
    codes "  " ++ (what ++ (codes " " ++ (decimal count ++ (codes " x " ++ (decimal weight ++ (codes " of " ++ (key ++ (codes " at " ++ (endpoint ++ codes "\n")))))))))
