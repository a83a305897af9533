-- What the fields of the plain reader stand for.
use Rattle.std.specs.Prelude.{◌≡◌, ℕ, ◌≤◌, true}
use Rattle.std.specs.List.{All}
use Rattle.dds_base.specs.Sets.{last_number}
use Rattle.dds_cache.specs.Released.{is_listed}
use Rattle.test_forms.specs.declared.reader.PlainReader.TheInside.{Inside}
use Rattle.dds_reader.specs.Marks.{in_marks, IsWhole}
use Rattle.dds_reader.specs.Notes.{has_writer}
use Rattle.dds_reader.specs.Reader.{ReaderState}

-- the state that the fields stand for
abbrev pub view_of : Inside → ReaderState
view_of a = record {
  me = a.me;
  watching = a.watching;
  limits = a.held.cache.limits;
  filter = a.filter.items;
  proxies = a.proxies.items;
  marks = a.held.marks.items;
  stored = a.held.cache.stored;
  keys = a.held.cache.keys;
}

-- the cache lists the reader's writers, no last number heard is above the last that a writer gives, and a watcher's marks have no hole
pub record IsSound (a : Inside) : Type 0 where
  pub listed : (w : ℕ) → is_listed w a.held.cache.writers ≡ has_writer w a.proxies.items
  pub heard : All (λ p. p.heard ≤ last_number) a.proxies.items
  pub whole : a.watching ≡ true → IsWhole (in_marks a.held.marks.items)
