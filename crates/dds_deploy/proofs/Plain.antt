-- What is read without a fault is plain: it nests no deeper than its place allows, and has no date in it.
use Rattle.std.proofs.Common.{codes, ◌≡◌, ℕ, ℤ, suc, ◌≤◌, ◌+◌, Bool, true, false, not, cond, ◌⊎◌, inl, inr, List, [], ◌∷◌, Option, Some, None, Ok, Less, nat_cmp, refl, sym, ap, subst, ◌∙◌, arith}
use Rattle.std.specs.Prelude.{◌&&◌, unwrap_or}
use Rattle.std.specs.List.{list_any, AllByRecursion}
use Rattle.std.specs.Str.{bytes_eq}
use Rattle.std.specs.Cmp.{tied_itself}
use Rattle.std.specs.Cmp.Lexicographic.{slice_cmp}
use Rattle.std.proofs.lemmas.Bool.{and_parts, or_cases}
use Rattle.std.proofs.lemmas.Bool.Decides.{nat_tests}
use Rattle.std.proofs.lemmas.Cmp.{nat_list_cmp_total}
use Rattle.std.proofs.lemmas.Slice.Eq.{bytes_eq-Decides}
use Rattle.toml.specs.Data.{Data, string, integer, boolean, array, table, Items, no_items, item, Members, no_members, member, get_member, as_str, as_integer, as_bool, as_array, as_table, is_before, depth, items_depth, members_depth, has_valid_dates, items_have_valid_dates, members_have_valid_dates, is_sorted, items_are_sorted, members_are_sorted}
use Rattle.toml.proofs.Blanks.{below_from, greater_from}
use Rattle.dds_fields.specs.declared.fault.FaultKind.TheVariants.{WrongKind, MissingKey, TooMany}
use Rattle.dds_fields.specs.Paths.{key_path, index_path}
use Rattle.dds_fields.specs.Reading.{Read, ◌>>=◌, or_fault, a_text, a_number, a_name, a_new_name, a_known_name, a_table, an_array, an_array_of, a_list_of, a_section, each, entry, field, optional, section, where_present, keys_of, unlisted, only}
use Rattle.dds_fields.specs.Words.{a_word, a_flag, a_long, a_duration, a_limit, word_or}
use Rattle.dds_fields.specs.Document.{version}
use Rattle.dds_fields.proofs.Laws.{bind_ok, ok_is, found_is}
use Rattle.dds_lists.specs.declared.lists.Pace.{Pace}
use Rattle.dds_lists.specs.WellFormed.{most_nanoseconds}
use Rattle.dds_deploy.specs.Versions.{since_third}
use Rattle.dds_deploy.specs.Starts.{some_times, a_start, start_field}
use Rattle.dds_deploy.specs.Paces.{nanoseconds, optional_nanoseconds, nanoseconds_before, pace, how_often, spans}
use Rattle.dds_deploy.specs.Topics.{a_type_name}
use Rattle.dds_deploy.proofs.Pushes.{passed}
use Rattle.dds_deploy.proofs.Later.{only_is}

-- where the keys of each table inside are in order, the data is at most n deep and has no date that a text cannot write
pub record IsPlain (n : ℕ) (d : Data) : Type 0 where
  pub if_sorted : is_sorted d ≡ true → (depth d ≤ n) × (has_valid_dates d ≡ true)

-- the same of items
record ArePlain (n : ℕ) (ds : Items) : Type 0 where
  pub if_sorted : items_are_sorted ds ≡ true → (items_depth ds ≤ n) × (items_have_valid_dates ds ≡ true)

-- the same of members
pub record HasPlain (n : ℕ) (ms : Members) : Type 0 where
  pub if_sorted : members_are_sorted ms ≡ true → (members_depth ms ≤ n) × (members_have_valid_dates ms ≡ true)

-- what stands at the key is plain
pub record IsPlainAt (n : ℕ) (ms : Members) (key : List ℕ) : Type 0 where
  pub plain : (d : Data) → get_member key ms ≡ Some d → IsPlain n d

-- what the reader accepts is plain
pub record ReadsPlain {A : Type 0} (n : ℕ) (read : List ℕ → Data → Read A) : Type 0 where
  pub plain : (path : List ℕ) (d : Data) (x : A) → read path d ≡ Ok x → IsPlain n d

-- tables

-- the members have this value at this key
abbrev Has : Members → List ℕ → Data → Type 0
Has no_members k d = ⊥
Has (member l e ms) k d = ((k ≡ l) × (d ≡ e)) ⊎ Has ms k d

-- a first member and the members after it, in order
record Ordered (l : List ℕ) (e : Data) (ms : Members) : Type 0 where
  pub before : is_before l ms ≡ true
  pub here : is_sorted e ≡ true
  pub more : members_are_sorted ms ≡ true

ordered : (l : List ℕ) (e : Data) (ms : Members) → members_are_sorted (member l e ms) ≡ true → Ordered l e ms
ordered l e ms h =
    let (front, more) = and_parts (is_before l ms && is_sorted e) (members_are_sorted ms) h in
    let (before, here) = and_parts (is_before l ms) (is_sorted e) front in
    record { before = before; here = here; more = more }

-- a key before the first key is before each
key_above : (l : List ℕ) (ms : Members) → is_before l ms ≡ true → members_are_sorted ms ≡ true → (k : List ℕ) (d : Data) → Has ms k d → slice_cmp nat_cmp l k ≡ Less
key_above l no_members b s k d h = absurd h
key_above l (member j e ms) b s k d (inl same) = rw same.0 (below_from l j b)
key_above l (member j e ms) b s k d (inr more) =
    let o = ordered j e ms s in
    nat_list_cmp_total.trans l j k (below_from l j b) (key_above j ms o.before o.more k d more)

-- where keys are in order, what a key has is what is found there
member_found : (ms : Members) → members_are_sorted ms ≡ true → (k : List ℕ) (d : Data) → Has ms k d → get_member k ms ≡ Some d
member_found no_members s k d h = absurd h
member_found (member l e ms) s k d (inl same) = rw (same.0, same.1, tied_itself nat_list_cmp_total l) refl
member_found (member l e ms) s k d (inr more) =
    let o = ordered l e ms s in
    rw (greater_from l k (key_above l ms o.before o.more k d more)) (member_found ms o.more k d more)

-- where no key is unlisted, each is listed
key_listed : (listed : List (List ℕ)) (ms : Members) → unlisted listed (keys_of ms) ≡ [] → (k : List ℕ) (d : Data) → Has ms k d → list_any (bytes_eq k) listed ≡ true
key_listed listed no_members e k d h = absurd h
key_listed listed (member l f ms) e k d h = by (key_listed listed ms) (list_any (bytes_eq l) listed) refl e h
  where
    by : (unlisted listed (keys_of ms) ≡ [] → (j : List ℕ) (x : Data) → Has ms j x → list_any (bytes_eq j) listed ≡ true) → (b : Bool) → list_any (bytes_eq l) listed ≡ b
        → cond (not b) (l ∷ unlisted listed (keys_of ms)) (unlisted listed (keys_of ms)) ≡ [] → Has (member l f ms) k d → list_any (bytes_eq k) listed ≡ true
    by rest false is g x = absurd cc
    by rest true is g (inl same) = rw same.0 is
    by rest true is g (inr more) = rest g k d more

-- what holds of all that are listed holds of one
all_at : (P : List ℕ → Type 0) (listed : List (List ℕ)) (k : List ℕ) → AllByRecursion P listed → list_any (bytes_eq k) listed ≡ true → P k
all_at P [] k h e = absurd cc
all_at P (l ∷ ls) k h e = elim (or_cases (bytes_eq k l) (list_any (bytes_eq k) ls) e) [
  | inl same ↦ subst P (sym ((bytes_eq-Decides k l).0 same)) h.0
  | inr more ↦ all_at P ls k h.1 more
]

-- members are plain where each value is
members_plain : (n : ℕ) (ms : Members) → ((k : List ℕ) (d : Data) → Has ms k d → IsPlain n d) → members_are_sorted ms ≡ true → (members_depth ms ≤ n) × (members_have_valid_dates ms ≡ true)
members_plain n no_members h s = (omega arith, refl)
members_plain n (member k d ms) h s =
    let o = ordered k d ms s in
    let here = (h k d (inl (refl, refl))).if_sorted o.here in
    let more = members_plain n ms (λ j x m. h j x (inr m)) o.more in
    let low : depth d ≤ n = here.0 in
    let rest : members_depth ms ≤ n = more.0 in
    (grind (arith, nat_tests), rw (here.1, more.1) refl)

-- a table with no other keys than these, and a plain value at each
pub listed_plain : {n : ℕ} {ms : Members} (listed : List (List ℕ)) → unlisted listed (keys_of ms) ≡ [] → AllByRecursion (IsPlainAt n ms) listed → HasPlain n ms
listed_plain {n} {ms} listed none all = record {
  if_sorted = λ s. members_plain n ms (λ k d h. (all_at (IsPlainAt n ms) listed k all (key_listed listed ms none k d h)).plain d (member_found ms s k d h)) s;
}

is_table : (d : Data) (ms : Members) → as_table d ≡ Some ms → d ≡ table ms
is_table (table ns) ms e = cc
is_table _ ms e = absurd cc

is_array : (d : Data) (ds : Items) → as_array d ≡ Some ds → d ≡ array ds
is_array (array es) ds e = cc
is_array _ ds e = absurd cc

table_plain : (n : ℕ) (ms : Members) → HasPlain n ms → IsPlain (suc n) (table ms)
table_plain n ms h = record { if_sorted = λ s. let p = h.if_sorted s in (omega (arith, p.0), p.1) }

array_plain : (n : ℕ) (ds : Items) → ArePlain n ds → IsPlain (suc n) (array ds)
array_plain n ds h = record { if_sorted = λ s. let p = h.if_sorted s in (omega (arith, p.0), p.1) }

-- an entry with a plain value at each of its keys
pub entry_plain : {n : ℕ} (listed : List (List ℕ)) (path : List ℕ) (d : Data) (ms : Members) → entry listed path d ≡ Ok ms → AllByRecursion (IsPlainAt n ms) listed → IsPlain (suc n) d
unfolding entry
entry_plain {n} listed path d ms e all =
    let t = bind_ok (a_table path d) _ ms e in
    let o = bind_ok (only listed path t.0) _ ms t.2 in
    let same = ok_is t.0 ms o.2 in
    let none = subst (λ w. unlisted listed (keys_of w) ≡ []) same (only_is listed path t.0 o.1) in
    rw (is_table d t.0 (found_is WrongKind path (as_table d) t.0 t.1), same) (table_plain n ms (listed_plain listed none all))

-- fields

-- what a field was read from is plain
pub field_plain : {A : Type 0} {n : ℕ} {key : List ℕ} {ms : Members} {read : List ℕ → Data → Read A} → ReadsPlain n read → (path : List ℕ) (x : A) → field key read path ms ≡ Ok x → IsPlainAt n ms key
unfolding field
field_plain {key = key} {ms = ms} {read = read} reads path x e =
    let a = bind_ok (or_fault MissingKey (key_path path key) (get_member key ms)) _ x e in
    let found = found_is MissingKey (key_path path key) (get_member key ms) a.0 a.1 in
    record { plain = λ d at. let same : a.0 ≡ d = cc in reads.plain (key_path path key) d x (subst (λ w. read (key_path path key) w ≡ Ok x) same a.2) }

present_plain : {A : Type 0} {n : ℕ} {key : List ℕ} {ms : Members} (absent : A) (read : Data → Read A) (x : A) → ((d : Data) → read d ≡ Ok x → IsPlain n d) → where_present absent read (get_member key ms) ≡ Ok x → IsPlainAt n ms key
present_plain absent read x reads e = record { plain = λ d at. reads d (rw at at e) }

-- where the field is absent there is nothing to show
pub optional_plain : {A : Type 0} {n : ℕ} {key : List ℕ} {ms : Members} {read : List ℕ → Data → Read A} → ReadsPlain n read → (absent : A) (path : List ℕ) (x : A) → optional key absent read path ms ≡ Ok x → IsPlainAt n ms key
unfolding optional
optional_plain {key = key} {read = read} reads absent path x e = present_plain absent (read (key_path path key)) x (λ d h. reads.plain (key_path path key) d x h) e

-- lists

-- items that were read one after the other are plain
each_plain : {S : Type 0} {n : ℕ} (read : S → List ℕ → Data → Read S) → ((s : S) → ReadsPlain n (read s)) → (path : List ℕ) (i : ℕ) (s : S) (ds : Items) (t : S) → each read path i s ds ≡ Ok t
    → items_are_sorted ds ≡ true → (items_depth ds ≤ n) × (items_have_valid_dates ds ≡ true)
each_plain read reads path i s no_items t e o = (omega arith, refl)
each_plain {n = n} read reads path i s (item d ds) t e o =
    let (first, later) = and_parts (is_sorted d) (items_are_sorted ds) o in
    let a = bind_ok (read s (index_path path i) d) (λ u. each read path (i + 1) u ds) t e in
    let here = ((reads s).plain (index_path path i) d a.0 a.1).if_sorted first in
    let more = each_plain {n = n} read reads path (i + 1) a.0 ds t a.2 later in
    let low : depth d ≤ n = here.0 in
    let rest : items_depth ds ≤ n = more.0 in
    (grind (arith, nat_tests), rw (here.1, more.1) refl)

array_is : (limit : ℕ) (path : List ℕ) (d : Data) (ds : Items) → an_array_of limit path d ≡ Ok ds → d ≡ array ds
unfolding an_array_of
array_is limit path d ds e =
    let a = bind_ok (an_array path d) _ ds e in
    let p = passed TooMany path _ a.0 ds a.2 in
    is_array d a.0 (found_is WrongKind path (as_array d) a.0 a.1) ∙ ap array p.1

-- an array of items each of which is plain
pub list_plain : {S : Type 0} {n : ℕ} {read : S → List ℕ → Data → Read S} (limit : ℕ) (start : S) → ((s : S) → ReadsPlain n (read s)) → ReadsPlain (suc n) (a_list_of limit read start)
unfolding a_list_of
list_plain {n = n} {read = read} limit start reads = record {
  plain = λ path d x e. let a = bind_ok (an_array_of limit path d) _ x e in
      rw (array_is limit path d a.0 a.1) (array_plain n a.0 (record { if_sorted = each_plain read reads path 0 start a.0 x a.2 }));
}

-- a section each entry of which is plain
pub section_plain : {S : Type 0} {n : ℕ} {key : List ℕ} {ms : Members} {read : S → List ℕ → Data → Read S} (limit : ℕ) (start : S) → ((s : S) → ReadsPlain n (read s)) → (x : S)
    → a_section key limit read start ms ≡ Ok x → IsPlainAt (suc n) ms key
unfolding section a_section
section_plain {n = n} {key = key} {ms = ms} {read = read} limit start reads x e =
    let a = bind_ok (section key limit ms) _ x e in
    present_plain no_items (an_array_of limit key) a.0 (λ d h. rw (array_is limit key d a.0 h) (array_plain n a.0 (record { if_sorted = each_plain read reads key 0 start a.0 x a.2 }))) a.1

-- values that are neither lists nor tables

string_plain : (n : ℕ) (d : Data) (s : List ℕ) → as_str d ≡ Some s → IsPlain n d
string_plain n (string t) s e = record { if_sorted = λ _. (omega arith, refl) }
string_plain n _ s e = absurd cc

integer_plain : (n : ℕ) (d : Data) (z : ℤ) → as_integer d ≡ Some z → IsPlain n d
integer_plain n (integer y) z e = record { if_sorted = λ _. (omega arith, refl) }
integer_plain n _ z e = absurd cc

boolean_plain : (n : ℕ) (d : Data) (b : Bool) → as_bool d ≡ Some b → IsPlain n d
boolean_plain n (boolean c) b e = record { if_sorted = λ _. (omega arith, refl) }
boolean_plain n _ b e = absurd cc

module _ {n : ℕ} where
  pub text_plain : ReadsPlain n a_text
  text_plain = record { plain = λ path d x e. string_plain n d x (found_is WrongKind path (as_str d) x e) }

  pub flag_plain : ReadsPlain n a_flag
  unfolding a_flag
  flag_plain = record { plain = λ path d x e. boolean_plain n d x (found_is WrongKind path (as_bool d) x e) }

  pub number_plain : (low high : ℕ) → ReadsPlain n (a_number low high)
  unfolding a_number
  number_plain low high = record { plain = λ path d x e. let z = bind_ok (or_fault WrongKind path (as_integer d)) _ x e in integer_plain n d z.0 (found_is WrongKind path (as_integer d) z.0 z.1) }

  pub version_plain : (newest : ℕ) → ReadsPlain n (version newest)
  unfolding version
  version_plain newest = record { plain = λ path d x e. let z = bind_ok (or_fault WrongKind path (as_integer d)) _ x e in integer_plain n d z.0 (found_is WrongKind path (as_integer d) z.0 z.1) }

  long_plain : ReadsPlain n a_long
  unfolding a_long
  long_plain = record { plain = λ path d x e. let z = bind_ok (or_fault WrongKind path (as_integer d)) _ x e in integer_plain n d z.0 (found_is WrongKind path (as_integer d) z.0 z.1) }

  pub name_plain : ReadsPlain n a_name
  unfolding a_name
  name_plain = record { plain = λ path d x e. let t = bind_ok (a_text path d) _ x e in text_plain.plain path d t.0 t.1 }

  pub new_name_plain : (names : List (List ℕ)) → ReadsPlain n (a_new_name names)
  unfolding a_new_name
  new_name_plain names = record { plain = λ path d x e. let t = bind_ok (a_name path d) _ x e in name_plain.plain path d t.0 t.1 }

  pub known_name_plain : (names : List (List ℕ)) → ReadsPlain n (a_known_name names)
  unfolding a_known_name
  known_name_plain names = record { plain = λ path d x e. let t = bind_ok (a_name path d) _ x e in name_plain.plain path d t.0 t.1 }

  pub word_plain : {A : Type 0} (words : List (List ℕ × A)) → ReadsPlain n (a_word words)
  unfolding a_word
  word_plain words = record { plain = λ path d x e. let t = bind_ok (a_text path d) _ x e in text_plain.plain path d t.0 t.1 }

  -- a word, or else what is plain
  word_or_plain : {A : Type 0} (word : List ℕ) (meaning : A) (other : Read A) (path : List ℕ) (d : Data) (x : A) → (other ≡ Ok x → IsPlain n d) → (o : Option (List ℕ)) → as_str d ≡ o → word_or word meaning other path o ≡ Ok x → IsPlain n d
  word_or_plain word meaning other path d x plain None is e = plain e
  word_or_plain word meaning other path d x plain (Some s) is e = string_plain n d s is

  pub duration_plain : ReadsPlain n a_duration
  unfolding a_duration
  duration_plain = record {
    plain = λ path d x e. word_or_plain (codes "infinite") None (a_long path d >>= λ m. Ok (Some m)) path d x
        (λ h. let m = bind_ok (a_long path d) _ x h in long_plain.plain path d m.0 m.1) (as_str d) refl e;
  }

  pub limit_plain : ReadsPlain n a_limit
  unfolding a_limit
  limit_plain = record {
    plain = λ path d x e. word_or_plain (codes "unlimited") None (a_number 1 2147483647 path d >>= λ m. Ok (Some m)) path d x
        (λ h. let m = bind_ok (a_number 1 2147483647 path d) _ x h in (number_plain 1 2147483647).plain path d m.0 m.1) (as_str d) refl e;
  }

  pub type_name_plain : (v : ℕ) → ReadsPlain n (a_type_name v)
  unfolding a_type_name
  type_name_plain v = record { plain = λ path d x e. let t = bind_ok (a_text path d) _ x e in text_plain.plain path d t.0 t.1 }

  some_times_plain : ReadsPlain n some_times
  unfolding some_times
  some_times_plain = record { plain = λ path d x e. let m = bind_ok (a_number 0 65535 path d) _ x e in (number_plain 0 65535).plain path d m.0 m.1 }

  start_plain : (v : ℕ) → ReadsPlain n (a_start v)
  unfolding a_start
  start_plain v = record { plain = λ path d x e. by path d x (since_third v) e }
    where
      by : (path : List ℕ) (d : Data) (x : Option ℕ) (b : Bool) → cond b (word_or (codes "unlimited") None (some_times path d) path (as_str d)) (some_times path d) ≡ Ok x → IsPlain n d
      by path d x true e = word_or_plain (codes "unlimited") None (some_times path d) path d x (λ h. some_times_plain.plain path d x h) (as_str d) refl e
      by path d x false e = some_times_plain.plain path d x e

  start_field_plain : (v : ℕ) (takes_nothing : Bool) (path : List ℕ) (ms : Members) (x : Option ℕ) → start_field v takes_nothing path ms ≡ Ok x → IsPlainAt n ms (codes "start")
  unfolding start_field
  start_field_plain v takes_nothing path ms x e = let start = bind_ok (optional (codes "start") (Some 0) (a_start v) path ms) _ x e in optional_plain (start_plain v) _ path _ start.1

  nanoseconds_plain : (low high : ℕ) → ReadsPlain n (nanoseconds low high)
  unfolding nanoseconds
  nanoseconds_plain low high = record { plain = λ path d x e. let m = bind_ok (a_number low high path d) _ x e in (number_plain low high).plain path d m.0 m.1 }

  optional_nanoseconds_plain : (low high : ℕ) (key path : List ℕ) (ms : Members) (x : Option ℕ) → optional_nanoseconds low high key path ms ≡ Ok x → IsPlainAt n ms key
  unfolding optional_nanoseconds
  optional_nanoseconds_plain low high key path ms x e = optional_plain (nanoseconds_plain low high) _ path _ e

  nanoseconds_before_plain : (other : List ℕ) (low : ℕ) (key path : List ℕ) (ms : Members) (x : Option ℕ) → nanoseconds_before other low key path ms ≡ Ok x → IsPlainAt n ms key
  unfolding nanoseconds_before
  nanoseconds_before_plain other low key path ms x e =
      let a = bind_ok (optional_nanoseconds low most_nanoseconds key path ms) _ x e in
      optional_nanoseconds_plain low most_nanoseconds key path ms a.0 a.1

  pace_plain : (path : List ℕ) (ms : Members) (x : Option Pace) → pace path ms ≡ Ok x → IsPlainAt n ms (codes "period") × IsPlainAt n ms (codes "jitter")
  unfolding pace
  pace_plain path ms x e =
      let period = bind_ok (nanoseconds_before (codes "jitter") 1 (codes "period") path ms) _ x e in
      let jitter = bind_ok (optional_nanoseconds 0 most_nanoseconds (codes "jitter") path ms) _ x period.2 in
      (nanoseconds_before_plain _ _ (codes "period") path ms period.0 period.1, optional_nanoseconds_plain _ _ (codes "jitter") path ms jitter.0 jitter.1)

  pub often_plain : (v : ℕ) (takes_nothing : Bool) (path : List ℕ) (ms : Members) (x : Option ℕ × Option Pace) → how_often v takes_nothing path ms ≡ Ok x → IsPlainAt n ms (codes "start") × IsPlainAt n ms (codes "period") × IsPlainAt n ms (codes "jitter")
  unfolding how_often
  often_plain v takes_nothing path ms x e =
      let start = bind_ok (start_field v takes_nothing path ms) _ x e in
      let by_clock = bind_ok (pace path ms) _ x start.2 in
      let p = pace_plain path ms by_clock.0 by_clock.1 in
      (start_field_plain v takes_nothing path ms start.0 start.1, p.0, p.1)

  pub spans_plain : (path : List ℕ) (ms : Members) (x : Option ℕ × Option ℕ) → spans path ms ≡ Ok x → IsPlainAt n ms (codes "taken_within") × IsPlainAt n ms (codes "available_within")
  unfolding spans
  spans_plain path ms x e =
      let taken = bind_ok (nanoseconds_before (codes "available_within") 0 (codes "taken_within") path ms) _ x e in
      let available = bind_ok (optional_nanoseconds 0 (unwrap_or taken.0 most_nanoseconds) (codes "available_within") path ms) _ x taken.2 in
      (nanoseconds_before_plain _ _ (codes "taken_within") path ms taken.0 taken.1, optional_nanoseconds_plain _ _ (codes "available_within") path ms available.0 available.1)
