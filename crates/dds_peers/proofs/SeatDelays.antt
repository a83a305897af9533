-- Delays of seats, one after the other.
use Rattle.std.proofs.Common.{◌≡◌, ℕ, zero, suc, ◌+◌, ◌-◌, ◌<◌, ◌≤◌, List, [], ◌∷◌, ◌++◌, length, Some, refl, sym, ap, ◌∙◌, subst, arith}
use Rattle.std.specs.Prelude.{slice_get}
use Rattle.std.proofs.lemmas.Bool.{le-leb, lt-leb}
use Rattle.std.proofs.lemmas.Option.{none-some, same_Some}
use Rattle.dds_lists.specs.Lists.{Application, Lists}
use Rattle.dds_peers.specs.Delays.{home_of}

-- what holds of each element by its place holds of one more
pub each_more : (P : ℕ → ℕ → Type 0) (xs : List ℕ) (x : ℕ) → ((i n : ℕ) → slice_get xs i ≡ Some n → P i n) → P (length xs) x → (i n : ℕ) → slice_get (xs ++ x ∷ []) i ≡ Some n → P i n
each_more P [] x all p zero n h = subst (P 0) (same_Some x n h) p
each_more P [] x all p (suc i) n h = absurd (none-some n h)
each_more P (y ∷ ys) x all p zero n h = all zero n h
each_more P (y ∷ ys) x all p (suc i) n h = each_more (λ j m. P (suc j) m) ys x (λ j m g. all (suc j) m g) p i n h

pub none_yet : (P : ℕ → ℕ → Type 0) (xs : List ℕ) → xs ≡ [] → (i n : ℕ) → slice_get xs i ≡ Some n → P i n
none_yet P [] e i n h = absurd (none-some n h)
none_yet P (x ∷ xs) e i n h = absurd (cc)

-- the home of an application's seat, and of a participant's
pub home_app : (d : Lists) (a : ℕ) (x : Application) → a < length d.applications.entries → slice_get d.applications.entries a ≡ Some x → home_of d a ≡ x.participant
home_app d a x low at = rw (le-leb (suc a) (length d.applications.entries) (omega arith), at) refl

pub home_participant : (d : Lists) (p : ℕ) → home_of d (length d.applications.entries + p) ≡ p
home_participant d p = rw (lt-leb (suc (length d.applications.entries + p)) (length d.applications.entries) (omega arith)) (omega arith)
