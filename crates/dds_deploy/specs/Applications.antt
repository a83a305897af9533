-- The section of the applications, which together own each endpoint once.
use Rattle.std.specs.Prelude.{codes, ℕ, Bool, List, [], ◌∷◌, ◌++◌, Option, Ok, not, ◌&&◌, ◌||◌, ◌==◌, unwrap_or, option_map, slice_get, length}
use Rattle.std.specs.List.{list_any, range_with_len, find}
use Rattle.toml.specs.Data.{Data, Members}
use Rattle.dds_base.specs.Limits.{most_applications}
use Rattle.dds_base.specs.Grid.{most_endpoints}
use Rattle.dds_fields.specs.declared.fault.FaultKind.TheVariants.{EndpointOwner}
use Rattle.dds_fields.specs.Reading.{◌>>=◌, Read, unless, nothing_or, a_known_name, field, optional, count, a_list_of, a_section}
use Rattle.dds_base.specs.Section.{Listed, nothing}
use Rattle.dds_fields.specs.Paths.{index_path}
use Rattle.dds_lists.specs.Lists.{Participant, Writer, Reader, Application, has}
use Rattle.dds_deploy.specs.Entries.{one_more}

-- one more endpoint of an application: it is at the participant p, and neither these applications nor this list have it already
abbrev pub may_own : (Application → List ℕ) → (ℕ → ℕ) → Listed Application → ℕ → List ℕ → ℕ → Bool
may_own owned_by participant_of others p before n =
    not (list_any (λ a. has (owned_by a) n) others.entries || has before n) && (participant_of n == p)

-- the participant of the endpoint with this number
abbrev pub writer_participant : Listed Writer → ℕ → ℕ
writer_participant ws w = unwrap_or (option_map (λ (x : Writer). x.participant) (slice_get ws.entries w)) 0

abbrev pub reader_participant : Listed Reader → ℕ → ℕ
reader_participant rs r = unwrap_or (option_map (λ (x : Reader). x.participant) (slice_get rs.entries r)) 0

-- one more number of an endpoint in the list of an application at the participant p
unfoldable pub own : List (List ℕ) → (Application → List ℕ) → (ℕ → ℕ) → Listed Application → ℕ → List ℕ → List ℕ → Data → Read (List ℕ)
own names owned_by participant_of others p before path d = do
  n ← a_known_name names path d
  unless EndpointOwner path (may_own owned_by participant_of others p before n) (before ++ n ∷ [])

abbrev pub own_writers : Listed Writer → Listed Application → ℕ → List ℕ → Data → Read (List ℕ)
own_writers ws others p = a_list_of most_endpoints (own ws.names (λ a. a.writers) (writer_participant ws) others p) []

abbrev pub own_readers : Listed Reader → Listed Application → ℕ → List ℕ → Data → Read (List ℕ)
own_readers rs others p = a_list_of most_endpoints (own rs.names (λ a. a.readers) (reader_participant rs) others p) []

abbrev pub application_keys : List (List ℕ)
application_keys = codes "name" ∷ codes "participant" ∷ codes "writers" ∷ codes "readers" ∷ []

unfoldable pub application_fields : Listed Participant → Listed Writer → Listed Reader → Listed Application → List ℕ → Members → Read Application
application_fields ps ws rs others path ms = do
  p ← field (codes "participant") (a_known_name ps.names) path ms
  own_ws ← optional (codes "writers") [] (own_writers ws others p) path ms
  own_rs ← optional (codes "readers") [] (own_readers rs others p) path ms
  Ok (record { participant = p; writers = own_ws; readers = own_rs })

-- one more application
abbrev pub application : Listed Participant → Listed Writer → Listed Reader → Listed Application → List ℕ → Data → Read (Listed Application)
application ps ws rs = one_more application_keys (application_fields ps ws rs)

abbrev pub application_list : Listed Participant → Listed Writer → Listed Reader → Members → Read (Listed Application)
application_list ps ws rs = a_section (codes "applications") most_applications (application ps ws rs) nothing

-- the first number below count of an endpoint that no application has
abbrev pub without_owner : (Application → List ℕ) → Listed Application → ℕ → Option ℕ
without_owner owned_by applications count =
    find (λ n. not (list_any (λ a. has (owned_by a) n) applications.entries)) (range_with_len 0 count)

-- each endpoint of the section at this key has an application
unfoldable pub are_owned : List ℕ → (Application → List ℕ) → Listed Application → ℕ → Read (Unit {0})
are_owned key owned_by all count = nothing_or EndpointOwner (option_map (index_path key) (without_owner owned_by all count))

-- the applications, which together own each writer and each reader
unfoldable pub applications : Listed Participant → Listed Writer → Listed Reader → Members → Read (Listed Application)
applications ps ws rs ms = do
  all ← application_list ps ws rs ms
  _ ← are_owned (codes "writers") (λ a. a.writers) all (length ws.entries)
  _ ← are_owned (codes "readers") (λ a. a.readers) all (length rs.entries)
  Ok all
