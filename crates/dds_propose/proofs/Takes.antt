-- How takes rise, rule by rule.
use Rattle.std.proofs.Common.{ℕ, zero, suc, ◌≡◌, ◌+◌, ◌-◌, ◌<◌, ◌≤◌, ◌==◌, ◌&&◌, ◌||◌, nat_lt, filter, Bool, true, false, if◌then◌else◌, List, [], ◌∷◌, length, get_or, slice_get, Some, inl, inr, refl, sym, ap, ◌∙◌, subst, arith}
use Rattle.std.specs.Int.{div_ceil}
use Rattle.std.proofs.Math.Numerals.{add-one}
use Rattle.std.proofs.lemmas.Bool.{lt-ltb, le-ltb, or_parts}
use Rattle.std.proofs.lemmas.Option.{none-some, same_Some}
use Rattle.dds_base.specs.Sums.{In}
use Rattle.dds_base.specs.declared.portion.Portion.{Portion}
use Rattle.dds_match.specs.Network.{Network, IsNetwork, weighed}
use Rattle.dds_match.proofs.Known.{all_in}
use Rattle.dds_propose.specs.declared.weights.Weights.{Weights}
use Rattle.dds_propose.specs.Following.{AreHeard, IsNeed, RaisesTakes}
use Rattle.dds_propose.specs.Relaxation.{with_number, by_permits, needs_of, first_risen, takes_risen}
use Rattle.dds_propose.specs.Tables.{cell, is_place}
use Rattle.dds_propose.proofs.Tables.{is_there, same_pair, other_pair, cases_pair, put_there, put_elsewhere}
use Rattle.dds_propose.proofs.Weighed.{weighed_same}

-- what stays of a list was in it
pub kept_in : {X : Type 0} (test : X → Bool) (xs : List X) (x : X) → In x (filter test xs) → In x xs
kept_in test [] x found = found
kept_in {X} test (y ∷ ys) x found = go (kept_in test ys x) (test y) found
  where
    go : (In x (filter test ys) → In x ys) → (b : Bool) → In x (if b then y ∷ filter test ys else filter test ys) → In x (y ∷ ys)
    go rest true (inl same) = inl same
    go rest true (inr later) = inr (rest later)
    go rest false later = inr (rest later)

at_place : {X : Type 0} (xs : List X) (i : ℕ) (x : X) → i < length xs → In (get_or xs i x) xs
at_place [] i x within = absurd (omega arith)
at_place (y ∷ ys) zero x within = inl refl
at_place (y ∷ ys) (suc i) x within = inr (at_place ys i x (omega arith))

-- what a rule takes is heard
pub needs_heard : (net : Network) → IsNetwork net → (u : ℕ) → u < net.rules → (takes : List (Portion ℕ)) → takes ≡ (net.rule u).takes → AreHeard net takes
needs_heard net known u there takes same i d within = known.takes_known u (get_or takes i d) there (subst (In (get_or takes i d)) same (at_place takes i d within))

-- the first of a list
pub first_rest : {X : Type 0} (xs : List X) (x : X) → slice_get xs 0 ≡ Some x → (rest : List X) × (xs ≡ x ∷ rest)
first_rest [] x first = absurd (none-some x first)
first_rest (y ∷ ys) x first = (ys, ap (λ z. z ∷ ys) (same_Some y x first))

-- the first of the needs is one of what the rule takes
pub need_in : (net : Network) (ts : List (Portion ℕ)) (e : Portion ℕ) → slice_get (needs_of net ts) 0 ≡ Some e → In e ts
need_in net ts e first = kept_in (λ x. by_permits net x.endpoint x.key) ts e (let rest = first_rest (needs_of net ts) e first in subst (In e) (sym rest.1) (inl refl))

-- and heard, so that it has a place
pub need_placed : (net : Network) → IsNetwork net → net.keys ≡ 64 → net.readers ≤ 256 → (ts : List (Portion ℕ)) (e : Portion ℕ) → AreHeard net ts → slice_get (needs_of net ts) 0 ≡ Some e → is_place e.endpoint e.key ≡ true
need_placed net known keys few ts e heard first =
    let hears = all_in (λ x. net.hears x.endpoint x.key ≡ true) ts e heard (need_in net ts e first) in
    let reader = known.heard_reader e.endpoint e.key hears in
    let key = known.heard_key e.endpoint e.key hears in
    is_there e.endpoint e.key (omega arith) (omega arith)

-- nothing rises
pub first_still : (ts : List (Portion ℕ)) (e : Portion ℕ) (rest : List (Portion ℕ)) (written : ℕ) (f : ℕ → ℕ → ℕ) → ts ≡ e ∷ rest → written ≤ weighed ts f → (r k : ℕ) → f r k ≡ first_risen ts written f r k
first_still ts e rest written f same enough r k =
    let here : written ≤ weighed (e ∷ rest) f = subst (λ xs. written ≤ weighed xs f) same enough in
    rw (same, le-ltb (weighed (e ∷ rest) f) written here) refl

-- the first need's take rises
pub first_raised : (ts : List (Portion ℕ)) (e : Portion ℕ) (rest : List (Portion ℕ)) (written v : ℕ) (f new : ℕ → ℕ → ℕ) → ts ≡ e ∷ rest → weighed ts f < written → is_place e.endpoint e.key ≡ true
    → v ≡ f e.endpoint e.key + div_ceil (written - weighed ts f) e.count → ((i j : ℕ) → new i j ≡ if is_place i j && ((i == e.endpoint) && (j == e.key)) then v else f i j)
    → (r k : ℕ) → new r k ≡ first_risen ts written f r k
first_raised ts e rest written v f new same more place sum put r k =
    let here : weighed (e ∷ rest) f < written = subst (λ xs. weighed xs f < written) same more in
    let value : v ≡ f e.endpoint e.key + div_ceil (written - weighed (e ∷ rest) f) e.count = subst (λ xs. v ≡ f e.endpoint e.key + div_ceil (written - weighed xs f) e.count) same sum in
    rw (same, lt-ltb (weighed (e ∷ rest) f) written here)
    (elim (cases_pair r k e.endpoint e.key) [
      | inl own ↦
          let there : is_place r k ≡ true = ap (λ i. is_place i k) own.0 ∙ (ap (is_place e.endpoint) own.1 ∙ place) in
          put r k ∙ (put_there (f r k) (is_place r k) ((r == e.endpoint) && (k == e.key)) v there (same_pair r k e.endpoint e.key own.0 own.1) ∙ (value ∙ rw (same_pair r k e.endpoint e.key own.0 own.1) refl))
      | inr apart ↦ put r k ∙ (put_elsewhere (f r k) (is_place r k) ((r == e.endpoint) && (k == e.key)) v (other_pair r k e.endpoint e.key apart) ∙ rw (other_pair r k e.endpoint e.key apart) refl)
    ])

either_same : (b : Bool) (x y z u : ℕ) → x ≡ z → y ≡ u → (if b then x else y) ≡ (if b then z else u)
either_same true x y z u e f = e
either_same false x y z u e f = f

-- equal takes rise to equal ones
pub first_same : (ts : List (Portion ℕ)) (p q : ℕ) (f g : ℕ → ℕ → ℕ) → p ≡ q → ((r k : ℕ) → f r k ≡ g r k) → (r k : ℕ) → first_risen ts p f r k ≡ first_risen ts q g r k
first_same [] p q f g written same r k = same r k
first_same (e ∷ es) p q f g written same r k =
    let needed = weighed_same (e ∷ es) f g same in
    rw (written, needed) (go (nat_lt (weighed (e ∷ es) g) q))
  where
    go : (b : Bool) → (if b then with_number f e.endpoint e.key (f e.endpoint e.key + div_ceil (q - weighed (e ∷ es) g) e.count) else f) r k ≡ (if b then with_number g e.endpoint e.key (g e.endpoint e.key + div_ceil (q - weighed (e ∷ es) g) e.count) else g) r k
    go true = either_same ((r == e.endpoint) && (k == e.key)) _ _ _ _ (ap (λ n. n + div_ceil (q - weighed (e ∷ es) g) e.count) (same e.endpoint e.key)) (same r k)
    go false = same r k

pub takes_none : (net : Network) (p f : ℕ → ℕ → ℕ) (r k : ℕ) → f r k ≡ takes_risen net p f 0 r k
unfolding takes_risen
takes_none net p f r k = refl

takes_more : (net : Network) (p f : ℕ → ℕ → ℕ) (u r k : ℕ) → takes_risen net p f (u + 1) r k ≡ first_risen (needs_of net (net.rule u).takes) (weighed (net.rule u).writes p) (takes_risen net p f u) r k
unfolding takes_risen
takes_more net p f u r k = rw (add-one u) refl

-- equal permits and takes give equal ones
pub takes_same : (net : Network) (p q f g : ℕ → ℕ → ℕ) → ((w k : ℕ) → p w k ≡ q w k) → ((r k : ℕ) → f r k ≡ g r k) → (u r k : ℕ) → takes_risen net p f u r k ≡ takes_risen net q g u r k
unfolding takes_risen
takes_same net p q f g permits takes zero r k = takes r k
takes_same net p q f g permits takes (suc u) r k =
    first_same (needs_of net (net.rule u).takes) _ _ (takes_risen net p f u) (takes_risen net q g u) (weighed_same (net.rule u).writes p q permits) (takes_same net p q f g permits takes u) r k

-- the takes of one more rule
pub takes_next : (net : Network) (u : ℕ) (takes writes : List (Portion ℕ)) (a b c : Weights) (x y z : Bool) → z ≡ (x || y) → takes ≡ (net.rule u).takes → writes ≡ (net.rule u).writes
    → RaisesTakes (takes_risen net (cell a.permits) (cell a.takes) u) a b x
    → RaisesTakes (first_risen (needs_of net takes) (weighed writes (cell b.permits)) (cell b.takes)) b c y
    → RaisesTakes (takes_risen net (cell a.permits) (cell a.takes) (u + 1)) a c z
takes_next net u takes writes a b c x y z both ts ws f g = record {
  samples = g.samples ∙ f.samples;
  risen = g.risen ∙ f.risen;
  permits = g.permits ∙ f.permits;
  raised = λ r k. g.raised r k ∙ (ap (λ xs. first_risen (needs_of net xs) (weighed writes (cell b.permits)) (cell b.takes) r k) ts ∙ (first_same (needs_of net (net.rule u).takes) _ _ (cell b.takes) (takes_risen net (cell a.permits) (cell a.takes) u) (ap (λ xs. weighed xs (cell b.permits)) ws ∙ ap (λ t. weighed (net.rule u).writes (cell t)) f.permits) f.raised r k ∙ sym (takes_more net (cell a.permits) (cell a.takes) u r k)));
  still = λ e r k. (let parts = or_parts x y (sym both ∙ e) in g.still parts.1 r k ∙ f.still parts.0 r k);
}

-- one rule more
needs_next : (net : Network) (p g : ℕ → ℕ → ℕ) (u r k : ℕ) (ts : List (Portion ℕ)) → u < net.rules → (1 ≤ g r k → IsNeed net r k) → needs_of net (net.rule u).takes ≡ ts → 1 ≤ first_risen ts (weighed (net.rule u).writes p) g r k → IsNeed net r k
needs_next net p g u r k [] there before same some = before some
needs_next net p g u r k (e ∷ es) there before same some = step (nat_lt (weighed (e ∷ es) g) (weighed (net.rule u).writes p)) some
  where
    at : (n : ℕ) → 1 ≤ with_number g e.endpoint e.key n r k → IsNeed net r k
    at n some = elim (cases_pair r k e.endpoint e.key) [
      | inl own ↦ record { rule = u; need = e; rest = es; there = there; takes = same; reader = sym own.0; key = sym own.1 }
      | inr apart ↦ before (subst (λ m. 1 ≤ m) (ap (λ b. if b then n else g r k) (other_pair r k e.endpoint e.key apart)) some)
    ]

    step : (b : Bool) → 1 ≤ (if b then with_number g e.endpoint e.key (g e.endpoint e.key + div_ceil (weighed (net.rule u).writes p - weighed (e ∷ es) g) e.count) else g) r k → IsNeed net r k
    step false some = before some
    step true some = at _ some

-- only first needs have a take
pub takes_needs : (net : Network) (p f : ℕ → ℕ → ℕ) (u : ℕ) → u ≤ net.rules → ((r k : ℕ) → 1 ≤ f r k → IsNeed net r k) → (r k : ℕ) → 1 ≤ takes_risen net p f u r k → IsNeed net r k
unfolding takes_risen
takes_needs net p f zero few needs r k some = needs r k some
takes_needs net p f (suc u) few needs r k some =
    needs_next net p (takes_risen net p f u) u r k (needs_of net (net.rule u).takes) (omega arith) (takes_needs net p f u (omega arith) needs r k) refl some
