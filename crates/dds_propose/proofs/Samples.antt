-- How samples rise to their takes.
use Rattle.std.proofs.Common.{ℕ, ◌≡◌, ◌+◌, ◌<◌, ◌≤◌, ◌||◌, Bool, List, ◌∷◌, inl, inr, sym, ap, ◌∙◌, arith}
use Rattle.std.proofs.lemmas.Bool.{cases_lt, or_parts}
use Rattle.dds_base.specs.declared.portion.Portion.{Portion}
use Rattle.dds_match.specs.Network.{Network}
use Rattle.dds_propose.specs.declared.weights.Weights.{Weights}
use Rattle.dds_propose.specs.Following.{RaisesSamples}
use Rattle.dds_propose.specs.Relaxation.{needs_of}
use Rattle.dds_propose.specs.Tables.{cell}

-- one after the other
pub samples_then : (a b c : Weights) (x y z : Bool) → z ≡ (x || y) → RaisesSamples a b x → RaisesSamples b c y → RaisesSamples a c z
samples_then a b c x y z both f g = record {
  takes = g.takes ∙ f.takes;
  permits = g.permits ∙ f.permits;
  noted = λ r k. (let h = f.noted r k in let l = g.noted r k in omega arith);
  most = λ r k. (let same : cell b.takes r k ≡ cell a.takes r k = ap (λ t. cell t r k) f.takes in let h = f.most r k in let l = g.most r k in omega arith);
  least = λ r k. (let h = f.least r k in let l = g.least r k in omega arith);
  fresh = λ r k below. (let same : cell c.takes r k ≡ cell b.takes r k = ap (λ t. cell t r k) g.takes in let l = g.least r k in g.fresh r k below ∙ f.fresh r k (omega arith));
  still = λ e r k. (let parts = or_parts x y (sym both ∙ e) in g.still parts.1 r k ∙ f.still parts.0 r k);
}

-- the first needs of one more rule have risen
pub done_next : (net : Network) (u : ℕ) (b c : Weights) (y : Bool) → RaisesSamples b c y
    → ((v : ℕ) (e : Portion ℕ) (es : List (Portion ℕ)) → v < u → needs_of net (net.rule v).takes ≡ e ∷ es → cell b.takes e.endpoint e.key ≤ cell b.samples e.endpoint e.key)
    → ((e : Portion ℕ) (es : List (Portion ℕ)) → needs_of net (net.rule u).takes ≡ e ∷ es → cell c.takes e.endpoint e.key ≤ cell c.samples e.endpoint e.key)
    → (v : ℕ) (e : Portion ℕ) (es : List (Portion ℕ)) → v < u + 1 → needs_of net (net.rule v).takes ≡ e ∷ es → cell c.takes e.endpoint e.key ≤ cell c.samples e.endpoint e.key
done_next net u b c y g before here v e es within first = elim (cases_lt v u) [
  | inl below ↦ (let old = before v e es below first in let same : cell c.takes e.endpoint e.key ≡ cell b.takes e.endpoint e.key = ap (λ t. cell t e.endpoint e.key) g.takes in let l = g.least e.endpoint e.key in omega arith)
  | inr past ↦ (let own : v ≡ u = omega arith in here e es (ap (λ n. needs_of net (net.rule n).takes) (sym own) ∙ first))
]
