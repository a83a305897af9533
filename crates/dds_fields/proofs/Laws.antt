-- Laws of reading: what is read fits, and a fault is the first.
use Rattle.std.proofs.Common.{◌≡◌, ℕ, zero, suc, ◌+◌, ◌<◌, Bool, true, false, cond, List, [], ◌∷◌, ◌++◌, length, Option, Some, None, Result, Ok, Err, nat_lt, refl, sym, ap, subst, ◌∙◌, arith, codes}
use Rattle.std.specs.List.{AllByRecursion}
use Rattle.std.specs.Prelude.{position}
use Rattle.std.specs.Str.{bytes_eq}
use Rattle.std.specs.List.{position_or_len}
use Rattle.std.proofs.lemmas.Bool.{ltb-true}
use Rattle.std.proofs.lemmas.Option.{cond_some}
use Rattle.dds_base.specs.Names.{number_of}
use Rattle.toml.specs.Data.{Data, Items, no_items, item, Members, get_member, get_item}
use Rattle.dds_fields.specs.declared.fault.FaultKind.{FaultKind}
use Rattle.dds_fields.specs.declared.fault.FaultKind.TheVariants.{MissingKey, UnknownName}
use Rattle.dds_fields.specs.Paths.{key_path, index_path}
use Rattle.dds_fields.specs.Reading.{Flaw, Read, ◌>>=◌, or_fault, a_name, a_known_name, a_new_name, field, optional, each, section}

pub bind_ok : {A B : Type 0} (r : Read A) (f : A → Read B) (y : B) → (r >>= f) ≡ Ok y → (x : A) × (r ≡ Ok x) × (f x ≡ Ok y)
bind_ok (Ok x) f y e = (x, refl, e)
bind_ok (Err p) f y e = absurd cc

pub ok_is : {A : Type 0} (x y : A) → ◌≡◌ {A = Read A} (Ok x) (Ok y) → x ≡ y
ok_is x y e = cc

pub found_is : {A : Type 0} (kind : FaultKind) (path : List ℕ) (o : Option A) (x : A) → or_fault kind path o ≡ Ok x → o ≡ Some x
found_is kind path None x e = absurd cc
found_is kind path (Some y) x e = ap Some (ok_is y x e)

module _ {S : Type 0} (read : S → List ℕ → Data → Read S) (path : List ℕ) where
  -- what each item keeps holds of what is read
  pub each-keeps : (P : S → Type 0) → ((s t : S) (p : List ℕ) (d : Data) → P s → read s p d ≡ Ok t → P t) → (i : ℕ) (s : S) (ds : Items) (t : S) → P s → each read path i s ds ≡ Ok t → P t
  each-keeps P step i s no_items t p e = subst P (ok_is s t e) p
  each-keeps P step i s (item d ds) t p e =
      let a = bind_ok (read s (index_path path i) d) (λ u. each read path (i + 1) u ds) t e in
      each-keeps P step (i + 1) a.0 ds t (step s a.0 (index_path path i) d p a.1) a.2

  -- the first n items
  abbrev pub take_items : ℕ → Items → Items
  take_items n no_items = no_items
  take_items zero (item d ds) = no_items
  take_items (suc n) (item d ds) = item d (take_items n ds)

  -- the items before the place are read, and the one there fails
  pub record FailsFirst (i : ℕ) (s : S) (ds : Items) (f : Flaw) : Type 0 where
    pub n : ℕ
    pub before : S
    pub here : Data
    pub front : each read path i s (take_items n ds) ≡ Ok before
    pub at : get_item n ds ≡ Some here
    pub fails : read before (index_path path (i + n)) here ≡ Err f

  pub each-fails : (i : ℕ) (s : S) (ds : Items) (f : Flaw) → each read path i s ds ≡ Err f → FailsFirst i s ds f
  each-fails i s no_items f e = absurd cc
  each-fails i s (item d ds) f e = by (λ t. each-fails (i + 1) t ds f) (read s (index_path path i) d) refl e
    where
      by : ((t : S) → each read path (i + 1) t ds ≡ Err f → FailsFirst (i + 1) t ds f) → (r : Read S) → read s (index_path path i) d ≡ r → (r >>= λ u. each read path (i + 1) u ds) ≡ Err f → FailsFirst i s (item d ds) f
      by ih (Err p) h g = record { n = 0; before = s; here = d; front = refl; at = refl; fails = let z : i + 0 ≡ i = omega arith in rw z (h ∙ g) }
      by ih (Ok t) h g =
          let more = ih t g in
          record { n = suc more.n; before = more.before; here = more.here; front = rw h more.front; at = more.at; fails = let z : i + suc more.n ≡ i + 1 + more.n = omega arith in rw z more.fails }

pub within : (names : List (List ℕ)) (name : List ℕ) (n : ℕ) → number_of names name ≡ Some n → n < length names
within names name n e =
    let c = cond_some (nat_lt (position_or_len (bytes_eq name) names) (length names)) (position_or_len (bytes_eq name) names) n e in
    subst (λ k. k < length names) c.1 (ltb-true _ _ c.0)

pub known_within : (names : List (List ℕ)) (path : List ℕ) (d : Data) (n : ℕ) → a_known_name names path d ≡ Ok n → n < length names
unfolding a_known_name
known_within names path d n e =
    let a = bind_ok (a_name path d) (λ name. or_fault UnknownName path (number_of names name)) n e in
    within names a.0 n (found_is UnknownName path (number_of names a.0) n a.2)

pub field_is : {A : Type 0} (key : List ℕ) (read : List ℕ → Data → Read A) (path : List ℕ) (ms : Members) (x : A) → field key read path ms ≡ Ok x → (d : Data) × (read (key_path path key) d ≡ Ok x)
unfolding field
field_is key read path ms x e =
    let a = bind_ok (or_fault MissingKey (key_path path key) (get_member key ms)) (read (key_path path key)) x e in
    (a.0, a.2)

pub all_push : {A : Type 0} (P : A → Type 0) (xs : List A) (x : A) → AllByRecursion P xs → P x → AllByRecursion P (xs ++ x ∷ [])
all_push P [] x h p = (p, tt)
all_push P (y ∷ ys) x h p = (h.0, all_push P ys x h.1 p)
