-- What a yes takes for granted of clocks: how soon readers take, and how often rules write.
use Rattle.std.specs.Prelude.{codes, ℕ, List, [], ◌++◌, length, if◌then◌else◌}
use Rattle.std.specs.Option.{option_map_or}
use Rattle.dds_lists.specs.declared.lists.Pace.{Pace}
use Rattle.dds_lists.specs.Lists.{Lists}
use Rattle.dds_match.specs.Paces.{available_span, taken_span}
use Rattle.dds_match.specs.Plan.{network_of}
use Rattle.dds_text.specs.Names.{reader_name, rule_text}
use Rattle.dds_text.specs.Texts.{each_below}
use Rattle.dds_explain.specs.Paces.{span_text}

-- how soon the reader does something with each sample
abbrev pub soon_line : Lists → ℕ → List ℕ → ℕ → List ℕ
soon_line d r does span = codes "premise " ++ (reader_name d r ++ (codes " " ++ (does ++ (codes " each sample within " ++ (span_text span ++ codes "\n")))))

-- how soon a strict reader takes each sample, and how soon it can, if that's said
abbrev pub reader_premises : Lists → ℕ → List ℕ
reader_premises d r =
    if (network_of d).watcher r then [] else
    option_map_or (soon_line d r (codes "takes")) (taken_span d r) [] ++ option_map_or (soon_line d r (codes "can take")) (available_span d r) []

-- how often a rule of this pace writes
abbrev pub pace_premise : Lists → ℕ → Pace → List ℕ
pace_premise d u p = codes "premise rule " ++ (rule_text d u ++ (codes ": every " ++ (span_text p.period ++ (codes ", jitter " ++ (span_text p.jitter ++ codes "\n")))))

-- how often the rule with this number writes, if it has a pace
abbrev pub rule_premise : Lists → ℕ → List ℕ
rule_premise d u = option_map_or (pace_premise d u) ((network_of d).rule u).pace []

-- those of the readers, then those of the rules
unfoldable pub premise_lines : Lists → List ℕ
premise_lines d = each_below (length d.readers.entries) (reader_premises d) ++ each_below (length d.rules.entries) (rule_premise d)
