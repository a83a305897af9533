-- What rows see of a network that carry samples by caps or by permits.
use Rattle.std.proofs.Common.{ℕ, ◌≡◌, ◌<◌, ◌&&◌, ◌||◌, Bool, true, false, zero, suc, Option, Some, None, refl, ap, ◌∙◌, arith}
use Rattle.std.specs.Prelude.{is_none, not, ◌==◌, List, [], ◌∷◌, length, if◌then◌else◌}
use Rattle.std.specs.List.{list_any}
use Rattle.std.proofs.lemmas.Bool.{ne_eqb}
use Rattle.std.proofs.lemmas.Option.{none-some}
use Rattle.dds_base.specs.Sums.{any_below, total}
use Rattle.dds_match.specs.Network.{Network, IsNetwork, capped, matched_writers}
use Rattle.dds_check.proofs.AnyBelow.{any_matched}
use Rattle.dds_propose.specs.declared.needs.Carrying.{Carrying}
use Rattle.dds_propose.specs.declared.needs.Carrying.TheVariants.{ByCaps, ByPermits}
use Rattle.dds_propose.specs.Relaxation.{by_caps, by_permits, seen}

-- a number that's there is the one that the clock gives
some_by_caps : (carrying : Carrying) (number : Option ℕ) (n : ℕ) → by_caps carrying number ≡ Some n → number ≡ Some n
some_by_caps ByCaps number n e = e
some_by_caps ByPermits number n e = absurd (none-some n e)

-- it's a network
pub seen_known : (carrying : Carrying) (net : Network) → IsNetwork net → IsNetwork (seen carrying net)
seen_known carrying net known = record {
  matched_writer = known.matched_writer;
  matched_reader = known.matched_reader;
  heard_reader = known.heard_reader;
  heard_key = known.heard_key;
  written_writer = known.written_writer;
  written_key = known.written_key;
  takes_known = known.takes_known;
  writes_known = known.writes_known;
  writer_depth = known.writer_depth;
  writer_consistent = known.writer_consistent;
  some_depth = known.some_depth;
  consistent = known.consistent;
  free_written = known.free_written;
  cap_matched = λ w r k n e. known.cap_matched w r k n (some_by_caps carrying (net.cap w r k) n e);
  cap_strict = λ w r k n e. known.cap_strict w r k n (some_by_caps carrying (net.cap w r k) n e);
  cap_heard = λ w r k n e. known.cap_heard w r k n (some_by_caps carrying (net.cap w r k) n e);
  lag_matched = λ w r k n e. known.lag_matched w r k n (some_by_caps carrying (net.lag w r k) n e);
  lag_strict = λ w r k n e. known.lag_strict w r k n (some_by_caps carrying (net.lag w r k) n e);
  lag_heard = λ w r k n e. known.lag_heard w r k n (some_by_caps carrying (net.lag w r k) n e);
}

-- none of them is without a cap, so none matches
any_uncapped : (f : ℕ → Bool) (n : ℕ) → any_below n (λ w. f w && true) ≡ any_below n f
unfolding any_below
any_uncapped f zero = refl
any_uncapped f (suc n) = rw (any_uncapped f n, and_true (f n)) refl
  where
    and_true : (b : Bool) → (b && true) ≡ b
    and_true true = refl
    and_true false = refl

-- without caps all are carried by permits
pub uncapped : (net : Network) (r k : ℕ) → by_permits (seen ByPermits net) r k ≡ true
uncapped net r k = go (any_below net.writers (λ w. net.matched w r)) _ _ (any_uncapped (λ w. net.matched w r) net.writers)
  where
    go : (some other : Bool) (n : ℕ) → other ≡ some → (is_none (if other then None else Some n) || not some) ≡ true
    go true other n e = rw e refl
    go false other n e = rw e refl

some_listed : (xs : List ℕ) → (length xs == 0) ≡ not (list_any (λ w. true) xs)
some_listed [] = refl
some_listed (x ∷ xs) = ne_eqb (suc (length xs)) 0 (λ e. absurd (omega arith))

-- no writer is listed where none matches
pub none_match : (net : Network) (r : ℕ) → (length (matched_writers net r) == 0) ≡ not (any_below net.writers (λ w. net.matched w r))
none_match net r = some_listed (matched_writers net r) ∙ ap not (any_matched net r (λ w. true) ∙ any_uncapped (λ w. net.matched w r) net.writers)
