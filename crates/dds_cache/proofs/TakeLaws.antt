-- What was found by places, in the words of the contract of `take`.
use Rattle.std.proofs.Common.{◌≡◌, ℕ, ◌≤◌, Bool, true, false, leb, ◌&&◌, List, [], Option, None, Some, get_or, subst, sym, ap, ◌∙◌, inl, inr, refl}
use Rattle.std.specs.Prelude.{filter, is_some}
use Rattle.std.specs.BTreeMap.{IsOrdered}
use Rattle.std.specs.Map.{values_of}
use Rattle.std.proofs.lemmas.Bool.{and_from, and_parts, eq-eqb, eqb-true, le-leb, leb-true, cases_Bool}
use Rattle.dds_base.specs.declared.sample.Sample.{Sample}
use Rattle.dds_qos.specs.Samples.{has_key}
use Rattle.dds_qos.specs.Taking.{IsLeastOfWriter}
use Rattle.dds_qos.proofs.TakingLaws.{least_at, none_at}
use Rattle.dds_cache.specs.declared.released.Released.{Released}
use Rattle.dds_cache.specs.Least.{IsAvailableAt, IsLeastAt, NoneAvailable}
use Rattle.dds_cache.specs.Order.{Place, Places, Held, at, are_apart, held_at, place_cmp, place_of, sample_of, samples_of}
use Rattle.dds_cache.specs.Released.{released_of}
use Rattle.dds_cache.proofs.PlaceLaws.{place_at, at_place}
use Rattle.dds_cache.proofs.TicketLaws.{in_order, found_at, stands_at}

-- an available sample of the key
abbrev pub passes : List Released → ℕ → Sample → Bool
passes ws key s = has_key key s && leb s.sn (released_of s.writer ws)

-- the sample of a ticket passes
available_at : (m : Places) (ws : List Released) (key t : ℕ) (x : Sample) → IsOrdered place_cmp m → at (samples_of m) t ≡ Some x → passes ws key x ≡ true
    → IsAvailableAt m ws key (place_of x)
available_at m ws key t x ordered there h =
    let p = and_parts (has_key key x) (leb x.sn (released_of x.writer ws)) h in
    record {
      here = ap is_some (stands_at m.entries t x ordered there);
      of_key = eqb-true x.key key p.0;
      available = leb-true x.sn (released_of x.writer ws) p.1;
    }

-- the sample of the least place may be given
pub taken_least : (m : Places) (ws : List Released) (key : ℕ) (p : Place) (h : Held) → IsOrdered place_cmp m → are_apart m.entries ≡ true
    → IsLeastAt m ws key p → held_at m p ≡ Some h
    → IsLeastOfWriter (sample_of p h.1) (filter (passes ws key) (values_of (samples_of m)))
taken_least m ws key p h ordered apart found there =
    let l = samples_of m in
    let x = sample_of p h.1 in
    let a = place_at l h.0 x (found_at m.entries p h apart there) in
    let av = found.0 in
    let own : passes ws key x ≡ true = and_from _ _ (eq-eqb _ key av.of_key) (le-leb _ _ av.available) in
    subst (λ (y : Sample). IsLeastOfWriter y (filter (passes ws key) (values_of l))) a.2 (least_at (passes ws key) (values_of l) a.0 x a.1
    (ap (passes ws key) a.2 ∙ own)
    (λ k within pass w.
    let s = at_place l k x (in_order m.entries) within in
    let y = get_or (values_of l) k x in
    subst (λ (z : Sample). z.sn ≤ y.sn) (sym a.2) (found.1 (place_of y) (available_at m ws key s.0 y ordered s.1 pass))))

-- where nothing is available nothing may be given
pub none_taken : (m : Places) (ws : List Released) (key : ℕ) → IsOrdered place_cmp m → NoneAvailable m ws key
    → filter (passes ws key) (values_of (samples_of m)) ≡ []
none_taken m ws key ordered none =
    let l = samples_of m in
    none_at (passes ws key) (values_of l) (λ k d within. elim (cases_Bool (passes ws key (get_or (values_of l) k d))) [
      | inl h ↦
          let s = at_place l k d (in_order m.entries) within in
          absurd (none (place_of (get_or (values_of l) k d)) (available_at m ws key s.0 (get_or (values_of l) k d) ordered s.1 h))
      | inr h ↦ h
    ])

-- what stands at a place where something does
pub standing : (o : Option Held) → is_some o ≡ true → (h : Held) × (o ≡ Some h)
standing None here = absurd (let f : false ≡ true = here in cc)
standing (Some h) here = (h, refl)
