-- The section of the rules.
use Rattle.std.specs.Prelude.{codes, ℕ, ◌+◌, Bool, false, List, [], ◌∷◌, ◌++◌, Option, Some, None, Ok, is_none, nat_le, not, ◌&&◌, ◌==◌, unwrap_or, option_and_then, length, if◌then◌else◌}
use Rattle.std.specs.List.{list_any}
use Rattle.toml.specs.Data.{Data, Members}
use Rattle.dds_base.specs.Limits.{most_rules}
use Rattle.dds_base.specs.declared.portion.Portion.{Portion}
use Rattle.dds_fields.specs.declared.fault.FaultKind.TheVariants.{RuleEntry, TooMany}
use Rattle.dds_fields.specs.Reading.{◌>>=◌, Read, unless, or_fault, a_text, a_number, a_new_name, a_known_name, field, optional, entry, a_list_of, a_section}
use Rattle.dds_base.specs.Section.{Listed}
use Rattle.dds_fields.specs.Words.{a_flag}
use Rattle.dds_lists.specs.declared.lists.Origin.{Origin}
use Rattle.dds_lists.specs.Lists.{Topic, Writer, Reader, Application, Rule, Rules, no_rules, and_rules, has, writers_at, readers_at}
use Rattle.dds_deploy.specs.Endpoints.{key_to_take, key_to_write}
use Rattle.dds_deploy.specs.Expansion.{expanded}
use Rattle.dds_deploy.specs.Versions.{since_fourth}
use Rattle.dds_deploy.specs.Paces.{how_often}

-- whether one of these is of this endpoint and key
abbrev pub is_named : List (Portion ℕ) → ℕ → ℕ → Bool
is_named before e k = list_any (λ x. x.endpoint == e && x.key == k) before

-- the key that was found, where the application has the endpoint and no earlier element names both
abbrev pub free_key : Bool → List (Portion ℕ) → ℕ → Option ℕ → Option ℕ
free_key owned before e found = option_and_then (λ k. if owned && not (is_named before e k) then Some k else None) found

-- one more element of a rule: an endpoint that `word` names, one of these that the application owns, and a key that it has
unfoldable pub portion : List ℕ → List (List ℕ) → List ℕ → (List ℕ → ℕ → Option ℕ) → List (Portion ℕ) → List ℕ → Data → Read (List (Portion ℕ))
portion word names own key_at before path d = do
  ms ← entry (word ∷ codes "key" ∷ codes "count" ∷ []) path d
  e ← field word (a_known_name names) path ms
  text ← field (codes "key") a_text path ms
  n ← field (codes "count") (a_number 1 65535) path ms
  k ← or_fault RuleEntry path (free_key (has own e) before e (key_at text e))
  Ok (before ++ record { endpoint = e; key = k; count = n } ∷ [])

-- the takes of a rule of the application a, and its writes
abbrev pub takes : Listed Topic → Listed Reader → Listed Application → ℕ → List ℕ → Data → Read (List (Portion ℕ))
takes ts rs apps a = a_list_of 16 (portion (codes "reader") rs.names (readers_at apps a) (key_to_take ts rs)) []

abbrev pub writes : Listed Topic → Listed Writer → Listed Application → ℕ → List ℕ → Data → Read (List (Portion ℕ))
writes ts ws apps a = a_list_of 16 (portion (codes "writer") ws.names (writers_at apps a) (key_to_write ts ws)) []

-- the one rule of an entry without `each`
unfoldable pub plain_rule : ℕ → Listed Topic → Listed Writer → Listed Reader → Listed Application → ℕ → List ℕ → Members → Read Rule
plain_rule v ts ws rs apps a path ms = do
  the_takes ← optional (codes "takes") [] (takes ts rs apps a) path ms
  the_writes ← optional (codes "writes") [] (writes ts ws apps a) path ms
  often ← how_often v (length the_takes == 0) path ms
  Ok (record { application = a; takes = the_takes; writes = the_writes; start = unwrap_or often.0 0; free = is_none often.0; pace = often.1 })

unfoldable pub single : ℕ → Listed Topic → Listed Writer → Listed Reader → Listed Application → ℕ → ℕ → List ℕ → Members → Read (List Origin × List Rule)
single v ts ws rs apps name a path ms = do
  u ← plain_rule v ts ws rs apps a path ms
  Ok (record { name = name; key = None } ∷ [], u ∷ [])

-- the keys that a rule's entry may have in every version
abbrev pub plain_keys : List (List ℕ)
plain_keys = codes "name" ∷ codes "application" ∷ codes "takes" ∷ codes "writes" ∷ codes "start" ∷ []

-- the keys of a rule's entry: since version 2 `each` is one, and since version 4 so are `period` and `jitter`
abbrev pub rule_keys : ℕ → List (List ℕ)
rule_keys v =
    if since_fourth v then codes "period" ∷ codes "jitter" ∷ codes "each" ∷ plain_keys
    else if v == 1 then plain_keys
    else codes "each" ∷ plain_keys

unfoldable pub rule_entry : ℕ → List ℕ → Data → Read Members
rule_entry v path d = entry (rule_keys v) path d

unfoldable pub rule_fields : ℕ → Listed Topic → Listed Writer → Listed Reader → Listed Application → ℕ → List ℕ → Members → Read (List Origin × List Rule)
rule_fields v ts ws rs apps name path ms = do
  a ← field (codes "application") (a_known_name apps.names) path ms
  for_each ← optional (codes "each") false a_flag path ms
  if for_each then expanded v ts ws rs apps name a path ms else single v ts ws rs apps name a path ms

-- the rules of one more entry, of which there are at most 256 in all
unfoldable pub rule : ℕ → Listed Topic → Listed Writer → Listed Reader → Listed Application → Rules → List ℕ → Data → Read Rules
rule v ts ws rs apps before path d = do
  ms ← rule_entry v path d
  name ← field (codes "name") (a_new_name before.names) path ms
  us ← rule_fields v ts ws rs apps (length before.names) path ms
  unless TooMany path (nat_le (length before.entries + length us.1) most_rules) (and_rules before name us)

abbrev pub rules : ℕ → Listed Topic → Listed Writer → Listed Reader → Listed Application → Members → Read Rules
rules v ts ws rs apps = a_section (codes "rules") most_rules (rule v ts ws rs apps) no_rules
