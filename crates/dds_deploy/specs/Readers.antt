-- The section of the readers.
use Rattle.std.specs.Prelude.{Bool, false, codes, ℕ, List, [], ◌∷◌, ◌++◌, Option, Ok, not, ◌==◌, if◌then◌else◌}
use Rattle.std.specs.List.{list_any}
use Rattle.toml.specs.Data.{Data, Members}
use Rattle.dds_base.specs.Grid.{most_endpoints, most_keys}
use Rattle.dds_qos.specs.declared.policies.Reliability.TheVariants.{BestEffort}
use Rattle.dds_fields.specs.declared.fault.FaultKind.TheVariants.{Duplicate}
use Rattle.dds_fields.specs.Reading.{◌>>=◌, Read, unless, a_known_name, field, optional, a_list_of, a_section}
use Rattle.dds_fields.specs.Words.{a_flag}
use Rattle.dds_base.specs.Section.{Listed, nothing}
use Rattle.dds_lists.specs.Lists.{Participant, Topic, Reader, keys_at, all_keys}
use Rattle.dds_deploy.specs.Versions.{since_third, since_fourth}
use Rattle.dds_deploy.specs.Paces.{spans}
use Rattle.dds_deploy.specs.Policies.{policies, partitions, endpoint_keys, consistent}
use Rattle.dds_deploy.specs.Entries.{one_more}

-- one more key of a filter
unfoldable pub filter_key : List (List ℕ) → List ℕ → List ℕ → Data → Read (List ℕ)
filter_key keys before path d = do
  n ← a_known_name keys path d
  unless Duplicate path (not (list_any (λ m. m == n) before)) (before ++ n ∷ [])

abbrev pub filter : List (List ℕ) → List ℕ → Data → Read (List ℕ)
filter keys = a_list_of most_keys (filter_key keys) []

-- whether a reader may lose samples, and how soon it takes and can take
unfoldable pub taking : List ℕ → Members → Read (Bool × Option ℕ × Option ℕ)
taking path ms = do
  lose ← optional (codes "may_lose") false a_flag path ms
  soon ← spans path ms
  Ok (lose, soon.0, soon.1)

unfoldable pub reader_fields : Listed Participant → Listed Topic → List ℕ → Members → Read Reader
reader_fields ps ts path ms = do
  p ← field (codes "participant") (a_known_name ps.names) path ms
  t ← field (codes "topic") (a_known_name ts.names) path ms
  keys ← optional (codes "filter") (all_keys (keys_at ts t)) (filter (keys_at ts t)) path ms
  takes ← taking path ms
  q ← policies BestEffort path ms
  names ← partitions path ms
  Ok (record { participant = p; topic = t; filter = keys; qos = record { requested = q }; partitions = names; may_lose = takes.0; taken_within = takes.1; available_within = takes.2 })

-- the keys of a reader's entry: since version 3 `may_lose` is one, and since version 4 so are its spans
abbrev pub reader_keys : ℕ → List (List ℕ)
reader_keys v =
    if since_fourth v then codes "taken_within" ∷ codes "available_within" ∷ codes "may_lose" ∷ codes "filter" ∷ endpoint_keys
    else if since_third v then codes "may_lose" ∷ codes "filter" ∷ endpoint_keys
    else codes "filter" ∷ endpoint_keys

-- one more reader
abbrev pub reader : ℕ → Listed Participant → Listed Topic → Listed Reader → List ℕ → Data → Read (Listed Reader)
reader v ps ts = one_more (reader_keys v) (λ _. consistent (λ r. r.qos.requested) (reader_fields ps ts))

abbrev pub readers : ℕ → Listed Participant → Listed Topic → Members → Read (Listed Reader)
readers v ps ts = a_section (codes "readers") most_endpoints (reader v ps ts) nothing
