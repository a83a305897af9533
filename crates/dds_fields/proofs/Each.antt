-- Reading the items of an array one after the other, as a loop does.
use Rattle.std.proofs.Common.{◌≡◌, ℕ, ◌+◌, ◌≤◌, ◌<◌, List, [], ◌∷◌, length, get_or, drop, Result, Ok, Err, refl, sym, ap, ◌∙◌, arith}
use Rattle.std.proofs.lemmas.List.{drop_all}
use Rattle.toml.specs.declared.value.Value.{Value}
use Rattle.toml.specs.View.{view, items_view}
use Rattle.toml.specs.Data.{Data, item}
use Rattle.toml.proofs.Views.{items_view-drop}
use Rattle.dds_fields.specs.declared.fault.ReadFault.{ReadFault}
use Rattle.dds_fields.specs.declared.fault.ReadFault.TheVariants.{At, NoMemory}
use Rattle.dds_fields.specs.Reading.{Flaw, Read, ◌>>=◌, each, count}
use Rattle.dds_fields.specs.Paths.{index_path}
use Rattle.dds_fields.specs.Gives.{IsAt, Fails, FailsAs, flaw}

-- what fails at a place fails so
pub fails_at : {Y : Type 0} (e : ReadFault) (p : Flaw) (r : Read Y) → r ≡ Err p → IsAt e p → Fails e r
fails_at NoMemory p r q h = tt
fails_at (At f) p r q h = q ∙ ap Err (sym h)

pub fails_then : {A B : Type 0} (e : ReadFault) (r : Read A) (f : A → Read B) → Fails e r → Fails e (r >>= f)
fails_then NoMemory r f h = tt
fails_then (At f) r g h = rw h

module _ {S : Type 0} (read : S → List ℕ → Data → Read S) (path : List ℕ) (vs : List Value) (i : ℕ) (s : S) (total : Read S) (so_far : each read path i s (items_view (drop i vs)) ≡ total) where
  opened : (v : Value) → i < length vs → v ≡ get_or vs i v → each read path i s (items_view (drop i vs)) ≡ (read s (index_path path i) (view v) >>= λ t. each read path (i + 1) t (items_view (drop (i + 1) vs)))
  opened v lt at = ap (each read path i s) (items_view-drop vs i v lt) ∙ ap (λ w. read s (index_path path i) (view w) >>= λ t. each read path (i + 1) t (items_view (drop (i + 1) vs))) (sym at)

  pub goes_on : (v : Value) (t : S) → i < length vs → v ≡ get_or vs i v → read s (index_path path i) (view v) ≡ Ok t → each read path (i + 1) t (items_view (drop (i + 1) vs)) ≡ total
  goes_on v t lt at ok = sym (opened v lt at ∙ ap (λ r. r >>= λ u. each read path (i + 1) u (items_view (drop (i + 1) vs))) ok) ∙ so_far

  pub ends : (v : Value) (e : ReadFault) → i < length vs → v ≡ get_or vs i v → Fails e (read s (index_path path i) (view v)) → Fails e total
  ends v e lt at fails = rw (← so_far, opened v lt at) (fails_then e (read s (index_path path i) (view v)) (λ t. each read path (i + 1) t (items_view (drop (i + 1) vs))) fails)

  pub is_done : length vs ≤ i → total ≡ Ok s
  is_done le = sym so_far ∙ ap (λ ws. each read path i s (items_view ws)) (drop_all i vs le)

pub count_view : (vs : List Value) → count (items_view vs) ≡ length vs
count_view [] = refl
count_view (v ∷ vs) = rw (count_view vs) (omega arith)

pub fails_as : {Y : Type 0} (e : ReadFault) (r : Read Y) → Fails e r → FailsAs (flaw e) r
fails_as NoMemory r h = tt
fails_as (At f) r h = h
