-- What every deployment keeps: the limits of its lists, that its numbers name what is there, that nothing is named twice, and who owns what.
use Rattle.std.specs.Prelude.{ℕ, true, ◌≡◌, ◌<◌, ◌≤◌, ◌-◌, ◌^◌, List, All, Contains, length, slice_get, slice_index_or, Some, None, unwrap_or, option_map, []}
use Rattle.dds_base.specs.Limits.{most_participants, most_topics, most_applications, most_rules}
use Rattle.dds_base.specs.Grid.{most_endpoints, most_keys}
use Rattle.dds_base.specs.Names.{number_of}
use Rattle.dds_base.specs.declared.portion.Portion.{Portion}
use Rattle.dds_qos.specs.declared.policies.HistoryKind.TheVariants.{KeepLast}
use Rattle.dds_qos.specs.declared.policies.Policies.{Policies}
use Rattle.dds_qos.specs.Consistency.{consistency_fault}
use Rattle.dds_base.specs.Section.{Listed}
use Rattle.dds_lists.specs.declared.lists.Origin.{Origin}
use Rattle.dds_lists.specs.declared.lists.Pace.{Pace}
use Rattle.dds_lists.specs.Lists.{Participant, Topic, Writer, Reader, Application, Rule, Rules, Lists, keys_at}

-- the keys of the filter of the reader with this number
abbrev pub filter_at : Listed Reader → ℕ → List ℕ
filter_at readers r = unwrap_or (option_map (λ (x : Reader). x.filter) (slice_get readers.entries r)) []

-- how many keys the topic of the writer with this number has
abbrev pub writer_key_count : Lists → ℕ → ℕ
writer_key_count d w = unwrap_or (option_map (λ (x : Writer). length (keys_at d.topics x.topic)) (slice_get d.writers.entries w)) 0

-- each name has an entry, and there are at most so many
pub record IsListOf {A : Type 0} (limit : ℕ) (all : Listed A) : Type 0 where
  pub paired : length all.names ≡ length all.entries
  pub few : length all.entries ≤ limit

-- each rule has an origin, which has one of the names, and there are at most so many rules
pub record AreRules (limit : ℕ) (all : Rules) : Type 0 where
  pub paired : length all.origins ≡ length all.entries
  pub few : length all.entries ≤ limit
  pub named : All (λ (o : Origin). o.name < length all.names) all.origins

-- by KEEP_LAST no more is kept of an instance than a finite max_samples_per_instance
abbrev pub KeepsWithin : Policies → Type 0
KeepsWithin q = q.history.kind ≡ KeepLast → (m : ℕ) → q.resource_limits.max_samples_per_instance ≡ Some m → q.history.depth ≤ m

pub record IsWriterOf (d : Lists) (w : Writer) : Type 0 where
  pub participant : w.participant < length d.participants.entries
  pub topic : w.topic < length d.topics.entries
  pub some_depth : 1 ≤ w.qos.offered.history.depth
  pub depth : KeepsWithin w.qos.offered

pub record IsReaderOf (d : Lists) (r : Reader) : Type 0 where
  pub participant : r.participant < length d.participants.entries
  pub topic : r.topic < length d.topics.entries
  pub filter : All (λ k. k < length (keys_at d.topics r.topic)) r.filter
  pub some_depth : 1 ≤ r.qos.requested.history.depth
  pub depth : KeepsWithin r.qos.requested

-- a key of a reader's filter
abbrev pub IsTakeOf : Lists → Portion ℕ → Type 0
IsTakeOf d x = Contains (filter_at d.readers x.endpoint) x.key

-- a key of a writer's topic
abbrev pub IsWriteOf : Lists → Portion ℕ → Type 0
IsWriteOf d x = x.key < writer_key_count d x.endpoint

pub record IsRuleOf (d : Lists) (u : Rule) : Type 0 where
  pub few_takes : length u.takes ≤ 16
  pub few_writes : length u.writes ≤ 16
  pub takes : All (IsTakeOf d) u.takes
  pub writes : All (IsWriteOf d) u.writes
  -- a free rule takes nothing, and what may be written at any time needs no start
  pub free_takes : u.free ≡ true → u.takes ≡ []
  pub free_start : u.free ≡ true → u.start ≡ 0

abbrev pub IsConnectionOf : Lists → ℕ × ℕ → Type 0
IsConnectionOf d c = (c.0 < length d.writers.entries) × (c.1 < length d.readers.entries)

pub record IsWellFormed (d : Lists) : Type 0 where
  pub participants : IsListOf most_participants d.participants
  pub topics : IsListOf most_topics d.topics
  pub writers : IsListOf most_endpoints d.writers
  pub readers : IsListOf most_endpoints d.readers
  pub applications : IsListOf most_applications d.applications
  pub rules : AreRules most_rules d.rules
  pub few_keys : All (λ (t : Topic). length t.keys ≤ most_keys) d.topics.entries
  pub each_writer : All (IsWriterOf d) d.writers.entries
  pub each_reader : All (IsReaderOf d) d.readers.entries
  pub each_rule : All (IsRuleOf d) d.rules.entries
  pub each_connection : All (IsConnectionOf d) d.connections

-- each name is found at its own place, so no two are the same
abbrev pub AreNumbered : List (List ℕ) → Type 0
AreNumbered names = (i : ℕ) → i < length names → number_of names (slice_index_or names i []) ≡ Some i

-- no two elements show the same
abbrev pub AreDistinctBy : {A B : Type 0} → (A → B) → List A → Type 0
AreDistinctBy {A} shown xs = (i j : ℕ) (d : A) → i < length xs → j < length xs → shown (slice_index_or xs i d) ≡ shown (slice_index_or xs j d) → i ≡ j

-- the endpoint and the key of an element of a rule
abbrev pub endpoint_and_key : Portion ℕ → ℕ × ℕ
endpoint_and_key x = (x.endpoint, x.key)

-- nothing is named twice: in a section, among a topic's keys, in a filter, in the takes or writes of one rule, among the connections
pub record NamesOnce (d : Lists) : Type 0 where
  pub participants : AreNumbered d.participants.names
  pub topics : AreNumbered d.topics.names
  pub writers : AreNumbered d.writers.names
  pub readers : AreNumbered d.readers.names
  pub applications : AreNumbered d.applications.names
  pub rules : AreNumbered d.rules.names
  pub keys : All (λ (t : Topic). AreNumbered t.keys) d.topics.entries
  pub filters : All (λ (r : Reader). AreDistinctBy (λ k. k) r.filter) d.readers.entries
  pub takes : All (λ (u : Rule). AreDistinctBy endpoint_and_key u.takes) d.rules.entries
  pub writes : All (λ (u : Rule). AreDistinctBy endpoint_and_key u.writes) d.rules.entries
  pub connections : AreDistinctBy (λ c. c) d.connections

-- what a rule takes or writes of a key: 1 to 65,535 samples
abbrev pub IsCounted : Portion ℕ → Type 0
IsCounted x = (1 ≤ x.count) × (x.count ≤ 65535)

-- the most nanoseconds that a file may give
abbrev pub most_nanoseconds : ℕ
most_nanoseconds = 2 ^ 63 - 1

-- a pace, which has a period
pub record IsPace (p : Pace) : Type 0 where
  pub some_period : 1 ≤ p.period
  pub period : p.period ≤ most_nanoseconds
  pub jitter : p.jitter ≤ most_nanoseconds

-- how soon a reader takes, and how soon it can
pub record AreSpans (r : Reader) : Type 0 where
  pub taken : (n : ℕ) → r.taken_within ≡ Some n → n ≤ most_nanoseconds
  pub available : (n : ℕ) → r.available_within ≡ Some n → n ≤ most_nanoseconds
  pub no_later : (n m : ℕ) → r.available_within ≡ Some n → r.taken_within ≡ Some m → n ≤ m

-- each endpoint's history and limits agree, each topic has a key, and domains, counts, starts, paces and spans are in their ranges
pub record IsConsistent (d : Lists) : Type 0 where
  pub domains : All (λ (p : Participant). p.domain ≤ 2147483647) d.participants.entries
  pub some_keys : All (λ (t : Topic). 1 ≤ length t.keys) d.topics.entries
  pub writers : All (λ (w : Writer). consistency_fault w.qos.offered ≡ None) d.writers.entries
  pub readers : All (λ (r : Reader). consistency_fault r.qos.requested ≡ None) d.readers.entries
  pub takes : All (λ (u : Rule). All IsCounted u.takes) d.rules.entries
  pub writes : All (λ (u : Rule). All IsCounted u.writes) d.rules.entries
  pub starts : All (λ (u : Rule). u.start ≤ 65535) d.rules.entries
  pub paces : All (λ (u : Rule). (p : Pace) → u.pace ≡ Some p → IsPace p) d.rules.entries
  pub spans : All AreSpans d.readers.entries

-- exactly one application has the endpoint with this number, and it is at this participant
pub record IsOwnedOnce (endpoints_of : Application → List ℕ) (all : Listed Application) (participant n : ℕ) : Type 0 where
  pub owner : ℕ
  pub application : Application
  pub at : slice_get all.entries owner ≡ Some application
  pub owns : Contains (endpoints_of application) n
  pub beside : application.participant ≡ participant
  pub only : (a : ℕ) (other : Application) → slice_get all.entries a ≡ Some other → Contains (endpoints_of other) n → a ≡ owner

-- an application's endpoints are there, and none is listed twice
pub record IsApplicationOf (d : Lists) (a : Application) : Type 0 where
  pub participant : a.participant < length d.participants.entries
  pub writers : All (λ w. w < length d.writers.entries) a.writers
  pub readers : All (λ r. r < length d.readers.entries) a.readers
  pub distinct_writers : AreDistinctBy (λ w. w) a.writers
  pub distinct_readers : AreDistinctBy (λ r. r) a.readers

-- a rule takes at readers and writes at writers of its own application
pub record KeepsToItsOwn (d : Lists) (u : Rule) : Type 0 where
  pub application : Application
  pub at : slice_get d.applications.entries u.application ≡ Some application
  pub takes : All (λ (x : Portion ℕ). Contains application.readers x.endpoint) u.takes
  pub writes : All (λ (x : Portion ℕ). Contains application.writers x.endpoint) u.writes

-- each endpoint has one owner, at its participant, and rules keep to what their application owns
pub record IsOwned (d : Lists) : Type 0 where
  pub each_application : All (IsApplicationOf d) d.applications.entries
  pub each_writer : (n : ℕ) (w : Writer) → slice_get d.writers.entries n ≡ Some w → IsOwnedOnce (λ a. a.writers) d.applications w.participant n
  pub each_reader : (n : ℕ) (r : Reader) → slice_get d.readers.entries n ≡ Some r → IsOwnedOnce (λ a. a.readers) d.applications r.participant n
  pub each_rule : All (KeepsToItsOwn d) d.rules.entries

-- all that every deployment keeps
pub record IsDeployment (d : Lists) : Type 0 where
  pub well_formed : IsWellFormed d
  pub names_once : NamesOnce d
  pub consistent : IsConsistent d
  pub owned : IsOwned d
