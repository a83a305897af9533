-- The fields that name an endpoint and its keys.
use Rattle.std.specs.Prelude.{codes, ℕ, Bool, List, [], ◌∷◌, Option, Some, None, Ok, ◌==◌, option_and_then, if◌then◌else◌}
use Rattle.toml.specs.Data.{Data, Members}
use Rattle.dds_base.specs.Names.{number_of}
use Rattle.dds_fields.specs.declared.fault.FaultKind.TheVariants.{UnknownName}
use Rattle.dds_fields.specs.Reading.{◌>>=◌, Read, or_fault, a_name, a_known_name}
pub use Rattle.dds_fields.specs.Reading.{field, optional}
use Rattle.dds_fields.specs.Document.{version}
use Rattle.dds_lists.specs.Lists.{Lists, all_keys}
use Rattle.dds_lists.specs.WellFormed.{filter_at}
use Rattle.dds_match.specs.Plan.{hears}
use Rattle.dds_text.specs.Names.{reader_keys, writer_keys}

-- the number that passes the test
abbrev pub passing : (ℕ → Bool) → Option ℕ → Option ℕ
passing test o = option_and_then (λ k. if test k then Some k else None) o

-- the number of the key with this name, where the reader's filter has it
abbrev pub heard_key : Lists → ℕ → List ℕ → Option ℕ
heard_key d r name = passing (hears d r) (number_of (reader_keys d r) name)

-- the name of a key of the reader's filter
unfoldable pub a_heard_key : Lists → ℕ → List ℕ → Data → Read ℕ
a_heard_key d r path x = do
  name ← a_name path x
  or_fault UnknownName path (heard_key d r name)

-- a key by its name, as a list of one
unfoldable pub one_key : (List ℕ → Data → Read ℕ) → List ℕ → Data → Read (List ℕ)
one_key a_key path x = do
  k ← a_key path x
  Ok (k ∷ [])

-- the keys that an entry stands for: the one that it names. From version 2 on it need not name one, and then stands for all of these
unfoldable pub keys_of_entry : (version : ℕ) → (all : List ℕ) → (List ℕ → Data → Read ℕ) → List ℕ → Members → Read (List ℕ)
keys_of_entry version all a_key path ms =
    if version == 1 then field (codes "key") (one_key a_key) path ms else optional (codes "key") all (one_key a_key) path ms

-- the fields for a reader and keys of its filter, which stand for the whole filter, in its order, where no key is named
unfoldable pub reader_and_keys : ℕ → Lists → List ℕ → Members → Read (ℕ × List ℕ)
reader_and_keys version d path ms = do
  r ← field (codes "reader") (a_known_name d.readers.names) path ms
  ks ← keys_of_entry version (filter_at d.readers r) (a_heard_key d r) path ms
  Ok (r, ks)

-- the fields for a writer and keys of its topic, which stand for all of them, in the topic's order, where no key is named
unfoldable pub writer_and_keys : ℕ → Lists → List ℕ → Members → Read (ℕ × List ℕ)
writer_and_keys version d path ms = do
  w ← field (codes "writer") (a_known_name d.writers.names) path ms
  ks ← keys_of_entry version (all_keys (writer_keys d w)) (a_known_name (writer_keys d w)) path ms
  Ok (w, ks)
