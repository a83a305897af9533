-- What paces show: at most how many samples of a key, written at a writer, a reader lacks, with the terms of that sum.
use Rattle.std.specs.Prelude.{codes, ℕ, List, [], ◌++◌, ◌+◌, ◌*◌, ◌/◌, ◌==◌, ◌&&◌, Bool, nat_lt, Option, is_some, length, if◌then◌else◌}
use Rattle.std.specs.Fmt.{decimal}
use Rattle.std.specs.Option.{option_map_or}
use Rattle.dds_base.specs.Grid.{most_keys}
use Rattle.dds_lists.specs.declared.lists.Pace.{Pace}
use Rattle.dds_lists.specs.Lists.{Lists}
use Rattle.dds_match.specs.Network.{Network, capped, named}
use Rattle.dds_match.specs.Paces.{taken_span, turns}
use Rattle.dds_match.specs.Plan.{network_of}
use Rattle.dds_text.specs.Names.{rule_text}
use Rattle.dds_text.specs.Texts.{each_below}
use Rattle.dds_show.specs.Times.{time_text}

-- so many nanoseconds, in the greatest unit that makes them a whole number; none are 0 ms
abbrev pub span_text : ℕ → List ℕ
span_text n = if n == 0 then codes "0 ms" else time_text n

-- how many turns a pace has at most in a span: one, and one for each period that fits
abbrev pub turns_text : ℕ → Pace → List ℕ
turns_text span p = codes "(1 + (" ++ (span_text span ++ (codes " + " ++ (span_text p.jitter ++ (codes ") / " ++ (span_text p.period ++ codes ")")))))

-- what a rule of this pace writes at most in a span, if it writes so many in a turn
abbrev pub pace_line : Lists → ℕ → ℕ → ℕ → Pace → List ℕ
pace_line d u count span p =
    if count == 0 then [] else
    codes "  paces show " ++ (decimal (count * turns p span) ++ (codes ": " ++ (decimal count ++ (codes " x " ++ (turns_text span p ++ (codes " of " ++ (rule_text d u ++ codes "\n")))))))

-- what the rule with this number writes at most of a key at a writer in a span, if it has a pace
abbrev pub rule_line : Lists → ℕ → ℕ → ℕ → ℕ → List ℕ
rule_line d w k span u = option_map_or (pace_line d u (named ((network_of d).rule u).writes w k) span) ((network_of d).rule u).pace []

-- what each rule does
abbrev pub rule_lines : Lists → ℕ → ℕ → ℕ → List ℕ
rule_lines d w k span = each_below (length d.rules.entries) (rule_line d w k span)

-- the terms of a number that paces show for a span, if both are there
abbrev pub pace_lines : Lists → ℕ → ℕ → Option ℕ → Option ℕ → List ℕ
pace_lines d w k number span = if is_some number then option_map_or (rule_lines d w k) span [] else []

-- the terms of a writer's cap
abbrev pub cap_lines : Lists → ℕ → ℕ → ℕ → List ℕ
cap_lines d w r k = pace_lines d w k ((network_of d).cap w r k) (taken_span d r)

-- there are such a reader and such a key, and caps bound how many samples of the key the reader has yet to take
abbrev pub is_capped : Network → ℕ → ℕ → Bool
is_capped net r k = nat_lt r net.readers && (nat_lt k net.keys && is_some (capped net r k))

-- the terms of the caps that bound these
abbrev pub capped_lines : Lists → ℕ → ℕ → List ℕ
capped_lines d r k = if is_capped (network_of d) r k then each_below (length d.writers.entries) (λ w. cap_lines d w r k) else []
