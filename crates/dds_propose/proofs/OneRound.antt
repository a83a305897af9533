-- One round over tables is one round of the row.
use Rattle.std.proofs.Common.{ℕ, suc, ◌≡◌, ◌+◌, ◌≤◌, ◌||◌, Bool, true, max, inl, inr, refl, sym, ap, ◌∙◌, subst, arith}
use Rattle.std.proofs.Math.Numerals.{add-one}
use Rattle.std.proofs.lemmas.Bool.{cases_lt, or_parts}
use Rattle.dds_base.specs.Sums.{In}
use Rattle.dds_match.specs.Network.{Network, IsNetwork}
use Rattle.dds_runs.specs.Accepted.{Row}
use Rattle.dds_propose.specs.declared.targets.Target.{Target}
use Rattle.dds_propose.specs.declared.weights.Weights.{Weights}
use Rattle.dds_propose.specs.Following.{Follows, IsMade, IsNeed, IsRound, RaisesSamples, RaisesTakes}
use Rattle.dds_propose.specs.Relaxation.{IsSame, by_permits, spread_by, permits_risen, round, rounds, takes_risen}
use Rattle.dds_propose.specs.Tables.{cell, row_of}
use Rattle.dds_propose.specs.Targets.{counts, reader_of}
use Rattle.dds_propose.proofs.Spreads.{spread_same, spread_none, spread_sum}
use Rattle.dds_propose.proofs.Takes.{takes_same, takes_needs, kept_in}

-- the permits have followed all that had risen
pub all_followed : (net : Network) (target : Target) (w0 w1 w2 : Weights) (x1 x2 : Bool) → IsMade net target w0 → Follows net w0 w1 x1
    → ((k : ℕ) → counts net target k ≡ true → cell w1.risen (reader_of target) k ≡ 0) → Follows net w1 w2 x2 → ((r k : ℕ) → IsNeed net r k → cell w2.risen r k ≡ 0)
    → (r k : ℕ) → cell w2.risen r k ≡ 0
all_followed net target w0 w1 w2 x1 x2 made f1 d1 f2 d2 r k =
    let first = f1.less r k in
    let second = f2.less r k in
    elim (cases_lt 0 (cell w2.risen r k)) [
      | inl some ↦ elim (made.sources r k (omega arith)) [
        | inl own ↦ (let none : cell w1.risen r k ≡ 0 = ap (λ i. cell w1.risen i k) (sym own.0) ∙ d1 k own.1 in omega arith)
        | inr need ↦ d2 r k need
      ]
      | inr none ↦ omega arith
    ]

-- a first need is heard
need_heard : (net : Network) → IsNetwork net → (r k : ℕ) → IsNeed net r k → net.hears r k ≡ true
need_heard net known r k need =
    let at = known.takes_known need.rule need.need need.there (kept_in (λ x. by_permits net x.endpoint x.key) (net.rule need.rule).takes need.need (subst (In need.need) (sym need.takes) (inl refl))) in
    ap (λ i. net.hears i k) (sym need.reader) ∙ (ap (net.hears need.need.endpoint) (sym need.key) ∙ at)

pub one_round : (net : Network) → IsNetwork net → (target : Target) (w0 w1 w2 w3 w4 : Weights) (x1 x2 x3 x4 z : Bool) → z ≡ (((x1 || x2) || x3) || x4) → IsMade net target w0 → Follows net w0 w1 x1
    → Follows net w1 w2 x2 → ((r k : ℕ) → cell w2.risen r k ≡ 0)
    → RaisesTakes (takes_risen net (cell w2.permits) (cell w2.takes) net.rules) w2 w3 x3
    → RaisesSamples w3 w4 x4 → ((r k : ℕ) → IsNeed net r k → cell w4.takes r k ≤ cell w4.samples r k) → IsRound net target w0 w4 z
one_round net known target w0 w1 w2 w3 w4 x1 x2 x3 x4 z any made f1 f2 none t s done = record {
  made = record {
    permits = λ w k. (let a = permits4 w k in let b = spread_sum net (cell w4.samples) (cell w0.samples) (cell w4.risen) sums w k in omega arith);
    heard = λ r k some. need_heard net known r k (risen_need r k some);
    sources = λ r k some. inr (risen_need r k some);
    needs = λ r k some. needs3 r k (subst (λ n. 1 ≤ n) (ap (λ c. cell c r k) s.takes) some);
  };
  same = record {
    samples = samples4;
    takes = takes4;
    permits = λ w k. (let a = permits4 w k in let b = made.permits w k in omega arith);
  };
  still = λ e. (let p = or_parts ((x1 || x2) || x3) x4 (sym any ∙ e) in let q = or_parts (x1 || x2) x3 p.0 in let o = or_parts x1 x2 q.0 in record {
    samples = λ r k. s.still p.1 r k ∙ samples3 r k;
    takes = λ r k. ap (λ c. cell c r k) s.takes ∙ (t.still q.1 r k ∙ ap (λ c. cell c r k) (f2.takes ∙ f1.takes));
    permits = λ w k. ap (λ c. cell c w k) (s.permits ∙ t.permits) ∙ (f2.still o.1 w k ∙ f1.still o.0 w k);
  });
}
  where
    samples3 : (r k : ℕ) → cell w3.samples r k ≡ cell w0.samples r k
    samples3 r k = ap (λ c. cell c r k) (t.samples ∙ (f2.samples ∙ f1.samples))

    takes2 : (r k : ℕ) → cell w2.takes r k ≡ cell w0.takes r k
    takes2 r k = ap (λ c. cell c r k) (f2.takes ∙ f1.takes)

    permits2 : (w k : ℕ) → cell w2.permits w k ≡ spread_by net (cell w0.samples) w k
    permits2 w k = (let a = f1.permits w k in let b = f2.permits w k in let m = made.permits w k in let n = spread_none net (cell w2.risen) none w k in omega arith)

    permits4 : (w k : ℕ) → cell w4.permits w k ≡ spread_by net (cell w0.samples) w k
    permits4 w k = ap (λ c. cell c w k) (s.permits ∙ t.permits) ∙ permits2 w k

    risen2 : (w k : ℕ) → cell w2.permits w k ≡ permits_risen net (row_of w0) w k
    risen2 w k = (let a = permits2 w k in let b = made.permits w k in omega arith)

    takes3 : (r k : ℕ) → cell w3.takes r k ≡ takes_risen net (permits_risen net (row_of w0)) (cell w0.takes) net.rules r k
    takes3 r k = t.raised r k ∙ takes_same net (cell w2.permits) (permits_risen net (row_of w0)) (cell w2.takes) (cell w0.takes) risen2 takes2 net.rules r k

    takes4 : (r k : ℕ) → cell w4.takes r k ≡ takes_risen net (permits_risen net (row_of w0)) (cell w0.takes) net.rules r k
    takes4 r k = ap (λ c. cell c r k) s.takes ∙ takes3 r k

    needs2 : (r k : ℕ) → 1 ≤ cell w2.takes r k → IsNeed net r k
    needs2 r k some = made.needs r k (let same = takes2 r k in omega arith)

    needs3 : (r k : ℕ) → 1 ≤ cell w3.takes r k → IsNeed net r k
    needs3 r k some = takes_needs net (cell w2.permits) (cell w2.takes) net.rules (omega arith) needs2 r k (let same = t.raised r k in omega arith)

    sums : (r k : ℕ) → cell w4.samples r k ≡ cell w0.samples r k + cell w4.risen r k
    sums r k = (let a = s.noted r k in let b = samples3 r k in let c : cell w3.risen r k ≡ 0 = ap (λ x. cell x r k) t.risen ∙ none r k in omega arith)

    risen_need : (r k : ℕ) → 1 ≤ cell w4.risen r k → IsNeed net r k
    risen_need r k some = needs3 r k (let a = sums r k in let b = samples3 r k in let c = s.most r k in omega arith)

    samples4 : (r k : ℕ) → cell w4.samples r k ≡ max (cell w0.samples r k) (takes_risen net (permits_risen net (row_of w0)) (cell w0.takes) net.rules r k)
    samples4 r k =
        (let a = samples3 r k in
        let b = takes3 r k in
        let most = s.most r k in
        let least = s.least r k in
        let same : cell w4.takes r k ≡ cell w3.takes r k = ap (λ c. cell c r k) s.takes in
        elim (cases_lt 0 (cell w3.takes r k)) [
          | inl some ↦ (let up = done r k (needs3 r k (omega arith)) in omega arith)
          | inr zero_take ↦ omega arith
        ])

-- ── rounds of rows that weigh the same
pub same_self : (a : Row) → IsSame a a
same_self a = record { samples = λ r k. refl; takes = λ r k. refl; permits = λ w k. refl }

pub same_back : (a b : Row) → IsSame a b → IsSame b a
same_back a b e = record { samples = λ r k. sym (e.samples r k); takes = λ r k. sym (e.takes r k); permits = λ w k. sym (e.permits w k) }

pub same_then : (a b c : Row) → IsSame a b → IsSame b c → IsSame a c
same_then a b c e f = record { samples = λ r k. e.samples r k ∙ f.samples r k; takes = λ r k. e.takes r k ∙ f.takes r k; permits = λ w k. e.permits w k ∙ f.permits w k }

pub round_same : (net : Network) (a b : Row) → IsSame a b → IsSame (round net a) (round net b)
round_same net a b e = record {
  samples = λ r k. ap (λ n. max n (takes_risen net (permits_risen net a) a.takes net.rules r k)) (e.samples r k) ∙ ap (max (b.samples r k)) (takes r k);
  takes = takes;
  permits = permits;
}
  where
    permits : (w k : ℕ) → permits_risen net a w k ≡ permits_risen net b w k
    permits w k = (let x = e.permits w k in let y = spread_same net a.samples b.samples e.samples w k in omega arith)

    takes : (r k : ℕ) → takes_risen net (permits_risen net a) a.takes net.rules r k ≡ takes_risen net (permits_risen net b) b.takes net.rules r k
    takes r k = takes_same net (permits_risen net a) (permits_risen net b) a.takes b.takes permits e.takes net.rules r k

pub rounds_none : (net : Network) (row a : Row) → IsSame a row → IsSame a (rounds net row 0)
unfolding rounds
rounds_none net row a e = e

-- one more round
pub rounds_more : (net : Network) (row a b : Row) (n : ℕ) → IsSame a (rounds net row n) → IsSame b (round net a) → IsSame b (rounds net row (n + 1))
unfolding rounds
rounds_more net row a b n e f = subst (λ m. IsSame b (rounds net row m)) (sym (add-one n)) (go (same_then b (round net a) (round net (rounds net row n)) f (round_same net a (rounds net row n) e)))
  where
    go : IsSame b (round net (rounds net row n)) → IsSame b (rounds net row (suc n))
    go h = h
