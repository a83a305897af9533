-- The start of a rule as it was read is in its range, and none only where the rule takes nothing.
use Rattle.std.proofs.Common.{codes, ◌≡◌, ℕ, ◌≤◌, Bool, true, false, cond, List, [], ◌∷◌, length, Option, Some, None, Ok, refl, subst, arith, eqb-true}
use Rattle.std.specs.Prelude.{◌||◌, ◌==◌, is_none, is_some, unwrap_or}
use Rattle.toml.specs.Data.{Data, Members, as_str}
use Rattle.dds_fields.specs.declared.fault.FaultKind.TheVariants.{OutOfRange}
use Rattle.dds_fields.specs.Paths.{key_path}
use Rattle.dds_fields.specs.Reading.{Read, a_number, optional}
use Rattle.dds_fields.specs.Words.{word_or}
use Rattle.dds_fields.proofs.Laws.{bind_ok, ok_is}
use Rattle.dds_deploy.specs.Versions.{since_third}
use Rattle.dds_deploy.specs.Starts.{some_times, a_start, start_field}
use Rattle.dds_deploy.proofs.Pushes.{passed, optional_keeps}
use Rattle.dds_deploy.proofs.Readings.{number_between}

pub nothing_long : {A : Type 0} (xs : List A) → (length xs == 0) ≡ true → xs ≡ []
nothing_long [] e = refl
nothing_long (x ∷ xs) e = let none = eqb-true (length (x ∷ xs)) 0 e in absurd (omega (arith, none))

pub start_none : (n : Option ℕ) → is_none n ≡ true → unwrap_or n 0 ≡ 0
start_none None e = refl
start_none (Some n) e = absurd cc

-- what may be read as a start, of a rule that takes nothing or something
pub record IsStart (takes_nothing : Bool) (n : Option ℕ) : Type 0 where
  pub few : unwrap_or n 0 ≤ 65535
  pub free : is_none n ≡ true → takes_nothing ≡ true

abbrev IsFew : Option ℕ → Type 0
IsFew n = unwrap_or n 0 ≤ 65535

some_times_few : (path : List ℕ) (d : Data) (n : Option ℕ) → some_times path d ≡ Ok n → IsFew n
unfolding some_times
some_times_few path d n e =
    let k = bind_ok (a_number 0 65535 path d) _ n e in
    subst IsFew (ok_is (Some k.0) n k.2) (number_between 0 65535 path d k.0 k.1).1

word_few : (other : Read (Option ℕ)) (path : List ℕ) (o : Option (List ℕ)) (n : Option ℕ) → (other ≡ Ok n → IsFew n) → word_or (codes "unlimited") None other path o ≡ Ok n → IsFew n
word_few other path None n few e = few e
word_few other path (Some text) n few e = subst IsFew (passed OutOfRange path _ None n e).1 (omega arith)

start_few : (v : ℕ) (path : List ℕ) (d : Data) (n : Option ℕ) → a_start v path d ≡ Ok n → IsFew n
unfolding a_start
start_few v path d n e = by (since_third v) e
  where
    by : (b : Bool) → cond b (word_or (codes "unlimited") None (some_times path d) path (as_str d)) (some_times path d) ≡ Ok n → IsFew n
    by true h = word_few (some_times path d) path (as_str d) n (λ k. some_times_few path d n k) h
    by false h = some_times_few path d n h

free_takes_nothing : (takes_nothing : Bool) (n : Option ℕ) → (takes_nothing || is_some n) ≡ true → is_none n ≡ true → takes_nothing ≡ true
free_takes_nothing takes_nothing (Some k) e none = absurd cc
free_takes_nothing true None e none = refl
free_takes_nothing false None e none = absurd cc

pub start_fits : (v : ℕ) (takes_nothing : Bool) (path : List ℕ) (ms : Members) (n : Option ℕ) → start_field v takes_nothing path ms ≡ Ok n → IsStart takes_nothing n
unfolding start_field
start_fits v takes_nothing path ms n e =
    let s = bind_ok (optional (codes "start") (Some 0) (a_start v) path ms) _ n e in
    let few = optional_keeps IsFew (codes "start") (Some 0) (a_start v) path ms s.0 (omega arith) (λ p d h. start_few v p d s.0 h) s.1 in
    let p = passed OutOfRange (key_path path (codes "start")) (takes_nothing || is_some s.0) s.0 n s.2 in
    subst (IsStart takes_nothing) p.1 (record { few = few; free = free_takes_nothing takes_nothing s.0 p.0 })
