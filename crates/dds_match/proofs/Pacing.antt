-- What a cap says of its writer, reader and key.
use Rattle.std.proofs.Common.{◌≡◌, ℕ, Bool, true, false, Option, Some, None, refl}
use Rattle.std.specs.Prelude.{if◌then◌else◌, option_and_then}
use Rattle.std.proofs.lemmas.Bool.{and_parts, not-true}
use Rattle.std.proofs.lemmas.Option.{none-some}
use Rattle.dds_lists.specs.Lists.{Lists}
use Rattle.dds_match.specs.Words.{matched, watcher, hears}
use Rattle.dds_match.specs.Paces.{counted, in_flight, is_awaited, most_within}

some_only_if : (b : Bool) (o : Option ℕ) (n : ℕ) → (if b then o else None) ≡ Some n → b ≡ true
some_only_if true o n h = refl
some_only_if false o n h = absurd (none-some n h)

awaited : (d : Lists) (w r k n : ℕ) (span : Option ℕ) → in_flight d w r k span ≡ Some n → is_awaited d w r k ≡ true
unfolding in_flight
awaited d w r k n span h = some_only_if (is_awaited d w r k) (option_and_then counted (option_and_then (most_within d w k) span)) n h

pub flies_matched : (d : Lists) (w r k n : ℕ) (span : Option ℕ) → in_flight d w r k span ≡ Some n → matched d w r ≡ true
flies_matched d w r k n span h = (and_parts _ _ (awaited d w r k n span h)).0

pub flies_strict : (d : Lists) (w r k n : ℕ) (span : Option ℕ) → in_flight d w r k span ≡ Some n → watcher d r ≡ false
flies_strict d w r k n span h = not-true _ (and_parts _ _ (and_parts _ _ (awaited d w r k n span h)).1).0

pub flies_heard : (d : Lists) (w r k n : ℕ) (span : Option ℕ) → in_flight d w r k span ≡ Some n → hears d r k ≡ true
flies_heard d w r k n span h = (and_parts _ _ (and_parts _ _ (awaited d w r k n span h)).1).1
