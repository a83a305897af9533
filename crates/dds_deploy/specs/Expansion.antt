-- The rules that a rule with `each` stands for: one for each key that all its endpoints have.
use Rattle.std.specs.Prelude.{is_none, ℕ, ◌+◌, Bool, map, is_some, List, Option, Some, None, Ok, nat_le, ◌&&◌, unwrap_or, option_map, option_and_then, slice_get, length, if◌then◌else◌}
use Rattle.std.specs.Option.{option_or}
use Rattle.std.specs.List.{list_all, filter as only_those}
use Rattle.toml.specs.Data.{Members}
use Rattle.dds_base.specs.Limits.{most_rules}
use Rattle.dds_base.specs.declared.portion.Portion.{Portion}
use Rattle.dds_fields.specs.declared.fault.FaultKind.TheVariants.{RuleEntry}
use Rattle.dds_fields.specs.Reading.{◌>>=◌, Read, or_fault}
use Rattle.dds_base.specs.Section.{Listed}
use Rattle.dds_lists.specs.declared.lists.Origin.{Origin}
use Rattle.dds_lists.specs.Lists.{Topic, Writer, Reader, Application, Rule, keys_at, all_keys, writer_topic, reader_topic, key_name}
use Rattle.dds_deploy.specs.Each.{EachRule, each_rule}
use Rattle.dds_deploy.specs.Endpoints.{key_to_take, key_to_write}

-- each reader that the rule takes at and each writer that it writes at has a key with this name
abbrev pub is_common : Listed Topic → Listed Writer → Listed Reader → EachRule → List ℕ → Bool
is_common ts ws rs u name =
    list_all (λ x. is_some (key_to_take ts rs name x.0)) u.takes && list_all (λ x. is_some (key_to_write ts ws name x.0)) u.writes

-- the topic of the rule's first element, of its takes before its writes
abbrev pub first_topic : Listed Writer → Listed Reader → EachRule → Option ℕ
first_topic ws rs u = option_or (option_map (λ x. reader_topic rs x.0) (slice_get u.takes 0)) (option_map (λ x. writer_topic ws x.0) (slice_get u.writes 0))

-- the keys of a topic whose names are common, in the topic's order
abbrev pub common_keys : Listed Topic → Listed Writer → Listed Reader → EachRule → ℕ → List ℕ
common_keys ts ws rs u t = only_those (λ k. is_common ts ws rs u (key_name ts t k)) (all_keys (keys_at ts t))

-- an element of the rule for one key, whose number at an endpoint is given
abbrev pub portion_at : {E : Type 0} → (E → Option ℕ) → E × ℕ → Portion E
portion_at number x = record { endpoint = x.0; key = unwrap_or (number x.0) 0; count = x.1 }

-- the rule for the key with this name
abbrev pub rule_for : Listed Topic → Listed Writer → Listed Reader → EachRule → List ℕ → Rule
rule_for ts ws rs u name = record {
  application = u.application;
  takes = map (portion_at (key_to_take ts rs name)) u.takes;
  writes = map (portion_at (key_to_write ts ws name)) u.writes;
  start = unwrap_or u.start 0;
  free = is_none u.start;
  pace = u.pace;
}

-- the rules that a rule with `each` stands for, one for each common key
abbrev pub rules_for : Listed Topic → Listed Writer → Listed Reader → EachRule → ℕ → List ℕ → List Rule
rules_for ts ws rs u t ks = map (λ k. rule_for ts ws rs u (key_name ts t k)) ks

abbrev pub origins_for : ℕ → ℕ → List ℕ → List Origin
origins_for name t ks = map (λ k. record { name = name; key = Some (t, k) }) ks

-- the common keys of the rule with its first topic, of which there has to be one
abbrev pub keys_to_expand : Listed Topic → Listed Writer → Listed Reader → EachRule → Option (ℕ × List ℕ)
keys_to_expand ts ws rs u = option_and_then (λ t. if nat_le 1 (length (common_keys ts ws rs u t)) then Some (t, common_keys ts ws rs u t) else None) (first_topic ws rs u)

-- the rules of an entry with `each`, under the name with this number
unfoldable pub expanded : ℕ → Listed Topic → Listed Writer → Listed Reader → Listed Application → ℕ → ℕ → List ℕ → Members → Read (List Origin × List Rule)
expanded v ts ws rs apps name a path ms = do
  u ← each_rule v ws rs apps a path ms
  c ← or_fault RuleEntry path (keys_to_expand ts ws rs u)
  Ok (origins_for name c.0 c.1, rules_for ts ws rs u c.0 c.1)

-- the rules of an entry, where they may stand after so many: at most 256 rules in all
abbrev pub with_room : ℕ → List Origin × List Rule → Option (List Origin × List Rule)
with_room before us = if nat_le (before + length us.1) most_rules then Some us else None

-- what is read of an entry, or that there is no room for it
abbrev pub within_room : ℕ → Read (List Origin × List Rule) → Read (Option (List Origin × List Rule))
within_room before r = r >>= λ us. Ok (with_room before us)
