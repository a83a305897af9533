-- Rules that give permits, and pairs of them that give permits for the same writes.
use Rattle.std.proofs.Common.{◌≡◌, inl, inr, ℕ, ◌+◌, ◌<◌, ◌≤◌, Bool, true, false, not, ◌&&◌, ◌||◌, cond, eqb, nat_lt, List, [], ◌∷◌, refl, sym, ◌∙◌, subst, arith}
use Rattle.std.proofs.lemmas.Bool.{and_parts, cases_Bool, eq-eqb, ltb-true, ltb-false, true≢false}
use Rattle.dds_base.specs.declared.portion.Portion.{Portion}
use Rattle.dds_match.specs.Network.{Network, named}
use Rattle.dds_conform.specs.Giving.{gives}
use Rattle.dds_conform.specs.Keeping.{Gives, HasNoRivals}
use Rattle.dds_conform.specs.Rivals.{are_rivals, share}

-- ── one rule
head_some : (a b : Bool) (c m : ℕ) → (a && (b && nat_lt 0 c)) ≡ true → 1 ≤ cond (a && b) c 0 + m
head_some true true c m h = let lt = ltb-true 0 c h in omega arith
head_some true false c m h = absurd cc
head_some false b c m h = absurd cc

pub gives_named : (es : List (Portion ℕ)) (w k : ℕ) → gives es w k ≡ true → 1 ≤ named es w k
gives_named [] w k h = absurd cc
gives_named (e ∷ es) w k h = elim (cases_Bool (eqb e.endpoint w && (eqb e.key k && nat_lt 0 e.count))) [
  | inl t ↦ head_some (eqb e.endpoint w) (eqb e.key k) e.count (named es w k) t
  | inr f ↦ (let rest = gives_named es w k (rw f at h) in omega arith)
]

head_none : (a b : Bool) (c m : ℕ) → (a && (b && nat_lt 0 c)) ≡ false → m ≡ 0 → cond (a && b) c 0 + m ≡ 0
head_none true true c m h none = let le = ltb-false 0 c h in omega arith
head_none true false c m h none = omega arith
head_none false b c m h none = omega arith

pub none_named : (es : List (Portion ℕ)) (w k : ℕ) → gives es w k ≡ false → named es w k ≡ 0
none_named [] w k h = refl
none_named (e ∷ es) w k h = elim (cases_Bool (eqb e.endpoint w && (eqb e.key k && nat_lt 0 e.count))) [
  | inl t ↦ absurd (true≢false (rw t at h))
  | inr f ↦ head_none (eqb e.endpoint w) (eqb e.key k) e.count (named es w k) f (none_named es w k (rw f at h))
]

-- ── two rules
-- a write that needs a permit, which both lists give
pub record IsShared (net : Network) (es fs : List (Portion ℕ)) : Type 0 where
  pub writer : ℕ
  pub key : ℕ
  pub paid : net.free writer key ≡ false
  pub one : gives es writer key ≡ true
  pub other : gives fs writer key ≡ true

off : (b : Bool) → not b ≡ true → b ≡ false
off true e = absurd cc
off false e = refl

or_right : (a b : Bool) → b ≡ true → (a || b) ≡ true
or_right true b h = refl
or_right false b h = h

pub shared : (net : Network) (es fs : List (Portion ℕ)) → share net es fs ≡ true → IsShared net es fs
shared net [] fs h = absurd cc
shared net (e ∷ es) fs h = elim (cases_Bool (nat_lt 0 e.count && (not (net.free e.endpoint e.key) && gives fs e.endpoint e.key))) [
  | inl t ↦ (
      let both = and_parts (nat_lt 0 e.count) (not (net.free e.endpoint e.key) && gives fs e.endpoint e.key) t in
      let rest = and_parts (not (net.free e.endpoint e.key)) (gives fs e.endpoint e.key) both.1 in
      record {
        writer = e.endpoint;
        key = e.key;
        paid = off (net.free e.endpoint e.key) rest.0;
        one = rw (eq-eqb e.endpoint e.endpoint refl, eq-eqb e.key e.key refl, both.0) refl;
        other = rest.1;
      })
  | inr f ↦ (
      let rest = shared net es fs (rw f at h) in
      record { writer = rest.writer; key = rest.key; paid = rest.paid; one = or_right _ (gives es rest.writer rest.key) rest.one; other = rest.other })
]

pub rivals_meet : (net : Network) (u v : ℕ) → u < net.rules → v < u → are_rivals net u v ≡ true → HasNoRivals net → ⊥
rivals_meet net u v within before rivals none =
    let needs = and_parts _ _ rivals in
    let rest = and_parts _ _ needs.1 in
    let s = shared net (net.rule u).writes (net.rule v).writes rest.1 in
    let same = none s.writer s.key u v s.paid
    (record { there = within; needs = off _ needs.0; gives = gives_named (net.rule u).writes s.writer s.key s.one })
    (record { there = omega arith; needs = off _ rest.0; gives = gives_named (net.rule v).writes s.writer s.key s.other }) in
    absurd (omega arith)

-- ── a rule that is tried
-- these portions are what the rule writes, and the test of them gave b
pub record IsTest (net : Network) (w k u : ℕ) (b : Bool) : Type 0 where
  pub portions : List (Portion ℕ)
  pub of : portions ≡ (net.rule u).writes
  pub test : b ≡ gives portions w k

pub gives_something : (net : Network) (w k u : ℕ) (b : Bool) → IsTest net w k u b → b ≡ true → 1 ≤ named (net.rule u).writes w k
gives_something net w k u b t is = subst (λ es. 1 ≤ named es w k) t.of (gives_named t.portions w k (sym t.test ∙ is))

pub gives_nothing : (net : Network) (w k u : ℕ) (b : Bool) → IsTest net w k u b → b ≡ false → Gives net w k u → ⊥
gives_nothing net w k u b t is g =
    let none = subst (λ es. named es w k ≡ 0) t.of (none_named t.portions w k (sym t.test ∙ is)) in
    let some = g.gives in
    absurd (omega arith)
