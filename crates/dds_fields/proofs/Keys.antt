-- The keys of a table, and the least that is not listed.
use Rattle.std.proofs.Common.{◌≡◌, ℕ, Bool, true, false, not, cond, filter, List, [], ◌∷◌, map, Option, Some, None, Ordering, Less, Greater, String, Global, Bor, string_bytes, nat_cmp, refl, sym, ap, ◌∙◌, ◌⊎◌, inl, inr}
use Rattle.std.specs.List.{list_any, AllByRecursion}
use Rattle.std.specs.Str.{bytes_eq}
use Rattle.std.specs.String.{string_cmp}
use Rattle.std.specs.Map as entries
use Rattle.std.specs.Ordering.{is_lt, ordering_reverse}
use Rattle.std.specs.Cmp.Lexicographic.{slice_cmp}
use Rattle.std.proofs.lemmas.Cmp.{nat_list_cmp_total}
use Rattle.toml.specs.declared.value.Value.{Value}
use Rattle.toml.specs.View.{members_view}
use Rattle.dds_fields.specs.Reading.{keys_of, lesser, least, unlisted}

pub keys_of-view : (es : List (String Global × Value)) → keys_of (members_view es) ≡ map string_bytes (entries.keys_of es)
keys_of-view [] = refl
keys_of-view (e ∷ es) = ap (λ ks. string_bytes e.0 ∷ ks) (keys_of-view es)

-- nothing is below k
abbrev IsAbove : List ℕ → Option (List ℕ) → Type 0
IsAbove k None = Unit {0}
IsAbove k (Some l) = slice_cmp nat_cmp k l ≡ Less

above_lesser : (k x : List ℕ) (o : Option (List ℕ)) (b : Bool) → slice_cmp nat_cmp k x ≡ Less → IsAbove k o → IsAbove k (Some (lesser x o))
above_lesser k x None b h o = h
above_lesser k x (Some l) b h o = by (is_lt (slice_cmp nat_cmp l x))
  where
    by : (b : Bool) → slice_cmp nat_cmp k (cond b l x) ≡ Less
    by true = o
    by false = h

above_step : (b : Bool) (k x : List ℕ) (us : List (List ℕ)) → slice_cmp nat_cmp k x ≡ Less → IsAbove k (least us) → IsAbove k (least (cond b (x ∷ us) us))
above_step true k x us h o = above_lesser k x (least us) true h o
above_step false k x us h o = o

above : (listed : List (List ℕ)) (k : String Global) (ks : List (String Global)) → AllByRecursion (λ y. string_cmp k y ≡ Less) ks → IsAbove (string_bytes k) (least (unlisted listed (map string_bytes ks)))
above listed k [] h = tt
above listed k (x ∷ ks) h = above_step (not (list_any (bytes_eq (string_bytes x)) listed)) (string_bytes k) (string_bytes x) (unlisted listed (map string_bytes ks)) h.0 (above listed k ks h.1)

lesser_first : (k : List ℕ) (o : Option (List ℕ)) → IsAbove k o → lesser k o ≡ k
lesser_first k None h = refl
lesser_first k (Some l) h = let e : slice_cmp nat_cmp l k ≡ Greater = nat_list_cmp_total.antisymm l k ∙ ap ordering_reverse h in rw e

-- where keys ascend, the first that is not listed is the least
pub least-first : (listed : List (List ℕ)) (k : String Global) (ks : List (String Global)) → list_any (bytes_eq (string_bytes k)) listed ≡ false → AllByRecursion (λ y. string_cmp k y ≡ Less) ks
    → least (unlisted listed (map string_bytes (k ∷ ks))) ≡ Some (string_bytes k)
least-first listed k ks new h = rw new (ap Some (lesser_first (string_bytes k) (least (unlisted listed (map string_bytes ks))) (above listed k ks h)))

pub unlisted-listed : (listed : List (List ℕ)) (k : String Global) (ks : List (String Global)) → list_any (bytes_eq (string_bytes k)) listed ≡ true
    → unlisted listed (map string_bytes (k ∷ ks)) ≡ unlisted listed (map string_bytes ks)
unlisted-listed listed k ks old = rw old
