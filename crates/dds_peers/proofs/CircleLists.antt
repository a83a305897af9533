-- Lists that grow by what is made of one more number, if the number passes a test.
use Rattle.std.proofs.Common.{◌≡◌, ℕ, ◌+◌, Bool, true, false, List, [], ◌∷◌, ◌++◌, filter, map, append_assoc, Some, slice_get, take, ◌&&◌}
use Rattle.std.specs.List.{flat_map, list_any, range_with_len}
use Rattle.std.proofs.lemmas.List.{append-nil, flat_map_more, map_push}
use Rattle.std.proofs.lemmas.List.Folds.{list_any_at, list_any_more}
use Rattle.std.proofs.lemmas.Option.{get_or_from_slice_get, slice_get_within}
use Rattle.dds_lists.specs.Lists.{Application, Lists, Reader, readers_at, writers_at}
use Rattle.dds_lists.specs.WellFormed.{filter_at}
use Rattle.dds_base.proofs.Lists.{kept_push}

-- the number passes
kept : (test : ℕ → Bool) (n : ℕ) → test n ≡ true → filter test (range_with_len 0 (n + 1)) ≡ filter test (range_with_len 0 n) ++ n ∷ []
kept test n e = rw (kept_push test n, e)

-- the number doesn't pass
left : (test : ℕ → Bool) (n : ℕ) → test n ≡ false → filter test (range_with_len 0 (n + 1)) ≡ filter test (range_with_len 0 n)
left test n e = rw (kept_push test n, e) (append-nil _)

pub one_kept : {X : Type 0} (test : ℕ → Bool) (f : ℕ → X) (start before after : List X) (n : ℕ)
    → test n ≡ true → before ≡ start ++ map f (filter test (range_with_len 0 n)) → after ≡ before ++ f n ∷ []
    → after ≡ start ++ map f (filter test (range_with_len 0 (n + 1)))
one_kept test f start before after n e b a = rw (a, b, kept test n e, map_push f (filter test (range_with_len 0 n)) n, append_assoc)

pub one_left : {X : Type 0} (test : ℕ → Bool) (f : ℕ → X) (start before after : List X) (n : ℕ)
    → test n ≡ false → before ≡ start ++ map f (filter test (range_with_len 0 n)) → after ≡ before
    → after ≡ start ++ map f (filter test (range_with_len 0 (n + 1)))
one_left test f start before after n e b a = rw (a, b, left test n e)

pub many_kept : {X : Type 0} (test : ℕ → Bool) (f : ℕ → List X) (start before after : List X) (n : ℕ)
    → test n ≡ true → before ≡ start ++ flat_map f (filter test (range_with_len 0 n)) → after ≡ before ++ f n
    → after ≡ start ++ flat_map f (filter test (range_with_len 0 (n + 1)))
many_kept test f start before after n e b a = rw (a, b, kept test n e) (flat_map_more f start (filter test (range_with_len 0 n)) n)

pub many_left : {X : Type 0} (test : ℕ → Bool) (f : ℕ → List X) (start before after : List X) (n : ℕ)
    → test n ≡ false → before ≡ start ++ flat_map f (filter test (range_with_len 0 n)) → after ≡ before
    → after ≡ start ++ flat_map f (filter test (range_with_len 0 (n + 1)))
many_left test f start before after n e b a = rw (a, b, left test n e)

-- what the lists say of an endpoint or an application that is there
pub filter_known : (d : Lists) (r : ℕ) (x : Reader) → slice_get d.readers.entries r ≡ Some x → filter_at d.readers r ≡ x.filter
filter_known d r x e = rw e

pub readers_known : (d : Lists) (a : ℕ) (x : Application) → slice_get d.applications.entries a ≡ Some x → readers_at d.applications a ≡ x.readers
readers_known d a x e = rw e

pub writers_known : (d : Lists) (a : ℕ) (x : Application) → slice_get d.applications.entries a ≡ Some x → writers_at d.applications a ≡ x.writers
writers_known d a x e = rw e

-- a test of the elements before and of the next one
pub none_more : {X : Type 0} (test : X → Bool) (xs : List X) (i : ℕ) (x : X) → slice_get xs i ≡ Some x → list_any test (take i xs) ≡ false → test x ≡ false → list_any test (take (i + 1) xs) ≡ false
none_more test xs i x at none e = rw (list_any_more test xs i x (slice_get_within xs i x at), none, get_or_from_slice_get xs i x x at, e)

pub any_at : {X : Type 0} (test : X → Bool) (xs : List X) (i : ℕ) (x : X) → slice_get xs i ≡ Some x → test x ≡ true → list_any test xs ≡ true
any_at test xs i x at e = list_any_at test xs i x (slice_get_within xs i x at) (rw (get_or_from_slice_get xs i x x at, e))

pub both_pass : (a b : Bool) → a ≡ true → b ≡ true → (a && b) ≡ true
both_pass a b e f = rw (e, f)

pub first_fails : (a b : Bool) → a ≡ false → (a && b) ≡ false
first_fails a b e = rw e

pub second_fails : (a b : Bool) → a ≡ true → b ≡ false → (a && b) ≡ false
second_fails a b e f = rw (e, f)
