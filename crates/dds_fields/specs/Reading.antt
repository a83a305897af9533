-- Reading from left to right, with the first fault that is met and the text of its place.
use Rattle.std.specs.Prelude.{codes, ℕ, ◌+◌, ℤ, pos, negsuc, List, [], ◌∷◌, ◌++◌, length, Bool, true, false, not, ◌==◌, Option, Some, None, Result, Ok, Err, is_some, if◌then◌else◌, map, take, filter, option_map, nat_le}
use Rattle.std.specs.List.{list_any}
use Rattle.std.specs.Str.{bytes_eq, chars}
use Rattle.std.specs.Ordering.{nat_cmp, is_lt}
use Rattle.std.specs.Cmp.Lexicographic.{slice_cmp}
use Rattle.std.specs.Fmt.{decimal}
use Rattle.dds_base.specs.Names.{is_name, is_name_byte, number_of, is_between}
use Rattle.toml.specs.Data.{Data, Items, no_items, item, Members, no_members, member, get_member, as_str, as_integer, as_array, as_table}
use Rattle.dds_fields.specs.Paths.{key_path, index_path}
use Rattle.dds_fields.specs.declared.fault.FaultKind.{FaultKind}
use Rattle.dds_fields.specs.declared.fault.FaultKind.TheVariants.{UnknownKey, MissingKey, WrongKind, OutOfRange, Duplicate, UnknownName, BadName, TooMany}

-- what is wrong, and the text of the place
abbrev pub Flaw : Type 0
Flaw = FaultKind × List ℕ

abbrev pub Read : Type 0 → Type 0
Read A = Result A Flaw

infixl 10 ◌>>=◌
abbrev pub ◌>>=◌ : {A B : Type 0} → Read A → (A → Read B) → Read B
(Ok x) >>= f = f x
(Err p) >>= f = Err p

-- the value that is there, or that fault
abbrev pub or_fault : {A : Type 0} → FaultKind → List ℕ → Option A → Read A
or_fault kind path None = Err (kind, path)
or_fault kind path (Some x) = Ok x

-- a fault where the test fails
abbrev pub unless : {A : Type 0} → FaultKind → List ℕ → Bool → A → Read A
unless kind path true x = Ok x
unless kind path false x = Err (kind, path)

-- what may stand at a place

abbrev pub a_text : List ℕ → Data → Read (List ℕ)
a_text path d = or_fault WrongKind path (as_str d)

abbrev pub a_table : List ℕ → Data → Read Members
a_table path d = or_fault WrongKind path (as_table d)

abbrev pub an_array : List ℕ → Data → Read Items
an_array path d = or_fault WrongKind path (as_array d)

-- a whole number in a range
abbrev pub natural : ℤ → Option ℕ
natural (pos n) = Some n
natural (negsuc n) = None

unfoldable pub a_number : ℕ → ℕ → List ℕ → Data → Read ℕ
a_number low high path d = do
  z ← or_fault WrongKind path (as_integer d)
  n ← or_fault OutOfRange path (natural z)
  unless OutOfRange path (is_between low high n) n

-- a name
unfoldable pub a_name : List ℕ → Data → Read (List ℕ)
a_name path d = do
  text ← a_text path d
  unless BadName path (is_name text) text

-- a name that none of these is
unfoldable pub a_new_name : List (List ℕ) → List ℕ → Data → Read (List ℕ)
a_new_name names path d = do
  name ← a_name path d
  unless Duplicate path (not (is_some (number_of names name))) name

-- the number of one of these names
unfoldable pub a_known_name : List (List ℕ) → List ℕ → Data → Read ℕ
a_known_name names path d = do
  name ← a_name path d
  or_fault UnknownName path (number_of names name)

-- the field at a key, as `read` reads it
unfoldable pub field : {A : Type 0} → List ℕ → (List ℕ → Data → Read A) → List ℕ → Members → Read A
field key read path ms = do
  d ← or_fault MissingKey (key_path path key) (get_member key ms)
  read (key_path path key) d

-- the items in order, each read after what was read before it
abbrev pub each : {S : Type 0} → (S → List ℕ → Data → Read S) → List ℕ → ℕ → S → Items → Read S
each read path i before no_items = Ok before
each read path i before (item d ds) = read before (index_path path i) d >>= λ after. each read path (i + 1) after ds

-- how many items
abbrev pub count : Items → ℕ
count no_items = 0
count (item d ds) = 1 + count ds

-- an array of at most so many items
unfoldable pub an_array_of : ℕ → List ℕ → Data → Read Items
an_array_of limit path d = do
  ds ← an_array path d
  unless TooMany path (nat_le (count ds) limit) ds

-- an array of at most so many items, each read after what was read before it
unfoldable pub a_list_of : {S : Type 0} → ℕ → (S → List ℕ → Data → Read S) → S → List ℕ → Data → Read S
a_list_of limit read before path d = do
  ds ← an_array_of limit path d
  each read path 0 before ds

-- what is read where something is there
abbrev pub where_present : {A : Type 0} → A → (Data → Read A) → Option Data → Read A
where_present absent read None = Ok absent
where_present absent read (Some d) = read d

-- the field at a key that may be absent
unfoldable pub optional : {A : Type 0} → List ℕ → A → (List ℕ → Data → Read A) → List ℕ → Members → Read A
optional key absent read path ms = where_present absent (read (key_path path key)) (get_member key ms)

-- the items of the section at a key of the document
unfoldable pub section : List ℕ → ℕ → Members → Read Items
section key limit ms = where_present no_items (an_array_of limit key) (get_member key ms)

-- the section at a key of the document, each item read after what was read before it
unfoldable pub a_section : {S : Type 0} → List ℕ → ℕ → (S → List ℕ → Data → Read S) → S → Members → Read S
a_section key limit read before ms = do
  ds ← section key limit ms
  each read key 0 before ds

-- how an unknown key is shown: its first 64 characters, those outside the alphabet of names as `?`
abbrev pub shown_char : ℕ → ℕ
shown_char c = if is_name_byte c then c else 63

unfoldable pub shown : List ℕ → List ℕ
shown key = map shown_char (take 64 (chars key))

abbrev pub keys_of : Members → List (List ℕ)
keys_of no_members = []
keys_of (member k d ms) = k ∷ keys_of ms

-- the least of these texts in byte order
abbrev pub lesser : List ℕ → Option (List ℕ) → List ℕ
lesser k None = k
lesser k (Some l) = if is_lt (slice_cmp nat_cmp l k) then l else k

abbrev pub least : List (List ℕ) → Option (List ℕ)
least [] = None
least (k ∷ ks) = Some (lesser k (least ks))

abbrev pub unlisted : List (List ℕ) → List (List ℕ) → List (List ℕ)
unlisted listed keys = filter (λ k. not (list_any (bytes_eq k) listed)) keys

abbrev pub nothing_or : FaultKind → Option (List ℕ) → Read (Unit {0})
nothing_or kind None = Ok tt
nothing_or kind (Some path) = Err (kind, path)

-- no other keys than these
unfoldable pub only : List (List ℕ) → List ℕ → Members → Read (Unit {0})
only listed path ms = nothing_or UnknownKey (option_map (λ k. key_path path (shown k)) (least (unlisted listed (keys_of ms))))

-- the table of an entry, with no other keys than these
unfoldable pub entry : List (List ℕ) → List ℕ → Data → Read Members
entry listed path d = do
  ms ← a_table path d
  _ ← only listed path ms
  Ok ms
