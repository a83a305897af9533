-- What `mark` leaves: one range that took in what it touched, or a base that did.
use Rattle.std.proofs.Common.{◌≡◌, ℕ, zero, suc, ◌+◌, ◌-◌, ◌<◌, ◌≤◌, Bool, true, false, not, ◌||◌, Option, None, Some, Result, Ok, Err, OnOk, OnErr, refl, sym, ap, ◌∙◌, arith, inl, inr, ◌⊎◌, ⊎_elim}
use Rattle.std.specs.Ordering.{nat_cmp}
use Rattle.std.specs.BTreeMap.{UpdatesBy, IsOrdered}
use Rattle.std.proofs.lemmas.Bool.{cases_lt, cases_eq, cases_order, cases_Bool, both_ways, false_from_ne_true, not_from_true}
use Rattle.dds_base.specs.Counts.{count_from, count_between}
use Rattle.dds_base.proofs.CountLaws.{count_join, count_none}
use Rattle.dds_reader.specs.Ranges.{at, RangeMap, has, is_between, IsApart, IsJoined, IsLastUpTo, IsFree, Tests, IsAbsorbed}
use Rattle.dds_reader.proofs.RangeLaws.{others, some_is, not_none, is_some_at}
use Rattle.dds_reader.proofs.HasLaws.{IsIn, has_decides, marks_more}

-- ---- counts
not_from : (p : ℕ → Bool) (a n : ℕ) → count_from p a n + count_from (λ k. not (p k)) a n ≡ n
unfolding count_from
not_from p a zero = refl
not_from p a (suc n) = elim (cases_Bool (p (a + n))) [
  | inl t ↦ rw t (omega (arith, not_from p a n))
  | inr f ↦ rw f (omega (arith, not_from p a n))
]

count_not : (p : ℕ → Bool) (a b : ℕ) → count_between p a b + count_between (λ k. not (p k)) a b ≡ b - a
unfolding count_between
count_not p a b = not_from p a (b - a)

pub count_fresh : (p : ℕ → Bool) (from start until end known : ℕ) → from ≤ start → start ≤ until → until ≤ end
    → ((n : ℕ) → from ≤ n → n < start → p n ≡ true) → ((n : ℕ) → until ≤ n → n < end → p n ≡ true)
    → known ≡ count_between p start end → end - start - known ≡ count_between (λ k. not (p k)) from until
count_fresh p from start until end known fs su ue before after is =
    let q : ℕ → Bool = λ k. not (p k) in
    let first = count_none q from start (λ n low high. not_from_true _ (before n low high)) in
    let last = count_none q until end (λ n low high. not_from_true _ (after n low high)) in
    let one = count_join q from start until fs su in
    let two = count_join q start until end su ue in
    let both = count_not p start end in
    omega (arith, first, last, one, two, both, is)

-- ---- a base that took in what it touched
module _ (base until end known : ℕ) (m n : RangeMap) (a : IsApart base m) (h : IsAbsorbed m n base base until end known) where
  was_above : (s e : ℕ) → at n s ≡ Some e → (base < s) × (at m s ≡ Some e) × (end < s)
  was_above s e there = elim (cases_lt base s) [
    | inl after ↦ let was = h.left.left s e after there in (after, was.0, was.1)
    | inr before ↦ absurd (let was = (a.each s e (sym (h.left.kept s before) ∙ there)).0 in omega (arith, was))
  ]

  pub base_marks : (from x : ℕ) → 1 ≤ from → 1 ≤ base → from ≤ base → base ≤ until → has end n x ≡ (has base m x || is_between from until x)
  base_marks from x one low fb bu = marks_more base end from until x m n a.ordered h.ordered
      (λ marked. elim marked [
        | inl within ↦ elim (cases_lt x base) [
          | inl lt ↦ inl (inl (within.0, lt))
          | inr ge ↦ elim (cases_lt x until) [
            | inl lt ↦ inr (omega (arith, fb, ge), lt)
            | inr past ↦ let j = h.joined x past within.1 in inl (inr (j.0, j.1, j.2, j.4, j.5))
          ]
        ]
        | inr g ↦ inl (inr (g.0, g.1, (was_above g.0 g.1 g.2).1, g.3, g.4))
      ])
      (λ marked. elim marked [
        | inl before ↦ elim before [
          | inl within ↦ inl (within.0, let lt = within.1 in let f = h.further in omega (arith, lt, f, bu))
          | inr g ↦
              let lt = g.4 in let le = g.3 in
              let after = (a.each g.0 g.1 g.2).0 in
              elim (h.left.gone g.0 g.1 after g.2) [
                | inl still ↦ inr (g.0, g.1, still, le, lt)
                | inr past ↦ inl (omega (arith, low, after, le), omega (arith, lt, past))
              ]
        ]
        | inr within ↦ inl (let low' = within.0 in omega (arith, one, low'), let lt = within.1 in let f = h.further in omega (arith, lt, f))
      ])

  base_tests : Tests m base base (has base m)
  base_tests = record {
    yes = λ s e x there after le lt. (has_decides base m x a.ordered).1 (inr (s, e, there, le, lt));
    no = λ x ge none. false_from_ne_true _ (λ t. elim ((has_decides base m x a.ordered).0 t) [
      | inl within ↦ let lt = within.1 in omega (arith, lt, ge)
      | inr g ↦ none g.0 g.1 g.2 (a.each g.0 g.1 g.2).0 g.3 g.4
    ]);
  }

  pub base_count : (from : ℕ) → 1 ≤ from → from ≤ base → base ≤ until → end - base - known ≡ count_between (λ x. not (has base m x)) from until
  base_count from one fb bu = count_fresh (has base m) from base until end known fb bu h.further
      (λ x low lt. (has_decides base m x a.ordered).1 (inl (omega (arith, one, low), lt)))
      (λ x low lt. let j = h.joined x low lt in (has_decides base m x a.ordered).1 (inr (j.0, j.1, j.2, j.4, j.5)))
      (h.count (has base m) base_tests)

-- ---- a range that took in what it touched
pub record IsJoin (base from until : ℕ) (m n : RangeMap) (key start end known : ℕ) : Type 0 where
  pub ordered : IsOrdered nat_cmp n
  pub order : (base < key) × (key ≤ from) × (from ≤ start) × (start ≤ until) × (until ≤ end) × (from < until)
  pub below : (q : ℕ) → q < key → at n q ≡ at m q
  pub here : at n key ≡ Some end
  pub left : (q e : ℕ) → key < q → at n q ≡ Some e → (at m q ≡ Some e) × (end < q)
  pub gone : (q e : ℕ) → key < q → at m q ≡ Some e → (at n q ≡ Some e) ⊎ (e ≤ end)
  pub joined : IsJoined m key until end
  pub was : (e : ℕ) → at m key ≡ Some e → e ≡ start
  pub marked : (x : ℕ) → key ≤ x → x < start → IsIn m x
  pub before : (q e : ℕ) → q < key → at m q ≡ Some e → e < key
  pub count : (p : ℕ → Bool) → Tests m key start p → known ≡ count_between p start end

module _ (base from until key start end known : ℕ) (m n : RangeMap) (a : IsApart base m) (h : IsJoin base from until m n key start end known) where
  pub join_apart : IsApart base n
  join_apart = record {
    ordered = h.ordered;
    each = λ s e there. elim (cases_order s key) [
      | inl same ↦ let o = h.order in let e' = some_is (ap (at n) (sym same) ∙ there) h.here in (omega (arith, same, o.0), omega (arith, same, o.1, o.2, o.3, o.4, o.5, e'))
      | inr ne ↦ elim ne [
        | inl lt ↦ a.each s e (sym (h.below s lt) ∙ there)
        | inr gt ↦ a.each s e (h.left s e gt there).0
      ]
    ];
    apart = λ s e t f there other lt. elim (cases_order s key) [
      | inl same ↦ let e' = some_is (ap (at n) (sym same) ∙ there) h.here in let w = (h.left t f (omega (arith, same, lt)) other).1 in omega (arith, e', w)
      | inr ne ↦ elim ne [
        | inl low ↦
            let was = sym (h.below s low) ∙ there in
            elim (cases_order t key) [
              | inl same ↦ let b = h.before s e low was in omega (arith, same, b)
              | inr apart ↦ elim apart [
                | inl lt' ↦ a.apart s e t f was (sym (h.below t lt') ∙ other) lt
                | inr gt ↦ a.apart s e t f was (h.left t f gt other).0 lt
              ]
            ]
        | inr gt ↦ a.apart s e t f (h.left s e gt there).0 (h.left t f (omega (arith, gt, lt)) other).0 lt
      ]
    ];
  }

  pub join_marks : (x : ℕ) → has base n x ≡ (has base m x || is_between from until x)
  join_marks x = let o = h.order in marks_more base base from until x m n a.ordered h.ordered
      (λ marked. elim marked [
        | inl low ↦ inl (inl low)
        | inr g ↦
            let le = g.3 in let lt = g.4 in
            elim (cases_order g.0 key) [
              | inl same ↦
                  let e' = some_is (ap (at n) (sym same) ∙ g.2) h.here in
                  elim (cases_lt x start) [
                    | inl early ↦ inl (inr (h.marked x (omega (arith, same, le)) early))
                    | inr late ↦ elim (cases_lt x until) [
                      | inl within ↦ inr (omega (arith, late, o.2), within)
                      | inr past ↦ let j = h.joined x past (omega (arith, e', lt)) in inl (inr (j.0, j.1, j.2, j.4, j.5))
                    ]
                  ]
              | inr ne ↦ elim ne [
                | inl low ↦ inl (inr (g.0, g.1, sym (h.below g.0 low) ∙ g.2, le, lt))
                | inr gt ↦ inl (inr (g.0, g.1, (h.left g.0 g.1 gt g.2).0, le, lt))
              ]
            ]
      ])
      (λ marked. elim marked [
        | inl old ↦ elim old [
          | inl low ↦ inl low
          | inr g ↦
              let le = g.3 in let lt = g.4 in
              elim (cases_order g.0 key) [
                | inl same ↦ let e' = h.was g.1 (ap (at m) (sym same) ∙ g.2) in inr (key, end, h.here, omega (arith, same, le), omega (arith, e', lt, o.3, o.4))
                | inr ne ↦ elim ne [
                  | inl low ↦ inr (g.0, g.1, h.below g.0 low ∙ g.2, le, lt)
                  | inr gt ↦ elim (h.gone g.0 g.1 gt g.2) [
                    | inl still ↦ inr (g.0, g.1, still, le, lt)
                    | inr past ↦ inr (key, end, h.here, omega (arith, gt, le), omega (arith, lt, past))
                  ]
                ]
              ]
        ]
        | inr within ↦ let le = within.0 in let lt = within.1 in inr (key, end, h.here, omega (arith, le, o.1), omega (arith, lt, o.4))
      ])

  join_tests : Tests m key start (has base m)
  join_tests = let o = h.order in record {
    yes = λ s e x there after le lt. (has_decides base m x a.ordered).1 (inr (s, e, there, le, lt));
    no = λ x ge none. false_from_ne_true _ (λ t. elim ((has_decides base m x a.ordered).0 t) [
      | inl within ↦ let lt = within.1 in omega (arith, lt, ge, o.0, o.1, o.2)
      | inr g ↦
          let le = g.3 in let lt = g.4 in
          elim (cases_order g.0 key) [
            | inl same ↦ let e' = h.was g.1 (ap (at m) (sym same) ∙ g.2) in omega (arith, e', lt, ge)
            | inr ne ↦ elim ne [
              | inl low ↦ let b = h.before g.0 g.1 low g.2 in omega (arith, b, lt, ge, o.1, o.2)
              | inr gt ↦ none g.0 g.1 g.2 gt le lt
            ]
          ]
    ]);
  }

  pub join_count : end - start - known ≡ count_between (λ x. not (has base m x)) from until
  join_count = let o = h.order in count_fresh (has base m) from start until end known o.2 o.3 o.4
      (λ x low lt. (has_decides base m x a.ordered).1 (inr (h.marked x (omega (arith, low, o.1)) lt)))
      (λ x low lt. let j = h.joined x low lt in (has_decides base m x a.ordered).1 (inr (j.0, j.1, j.2, j.4, j.5)))
      (h.count (has base m) join_tests)

-- ---- what the last range up to a number says of it
pub key_join : (base from until key start end known : ℕ) (m n0 n : RangeMap) → IsApart base m → at m key ≡ Some start → key ≤ from → from ≤ start → start ≤ until → from < until
    → IsAbsorbed m n0 key start until end known → UpdatesBy nat_cmp (nat_cmp key) n0 n (Some end) → IsOrdered nat_cmp n → IsJoin base from until m n key start end known
key_join base from until key start end known m n0 n a there kf fs su fu h u ordered = record {
  ordered = ordered;
  order = ((a.each key start there).0, kf, fs, su, h.further, fu);
  below = λ q lt. others n0 n key q (Some end) u (λ e. omega (arith, e, lt)) ∙ h.left.kept q (omega (arith, lt));
  here = u.1;
  left = λ q e gt other. h.left.left q e gt (sym (others n0 n key q (Some end) u (λ e. omega (arith, e, gt))) ∙ other);
  gone = λ q e gt other. elim (h.left.gone q e gt other) [
    | inl still ↦ inl (others n0 n key q (Some end) u (λ e. omega (arith, e, gt)) ∙ still)
    | inr past ↦ inr past
  ];
  joined = h.joined;
  was = λ e other. some_is other there;
  marked = λ x low lt. (key, start, there, low, lt);
  before = λ q e lt other. a.apart q e key start other there lt;
  count = h.count;
}

-- a new range: m1 has it where m has none
pub new_join : (base from until end known : ℕ) (m m1 n0 n : RangeMap) → IsApart base m → base < from → from < until → at m from ≡ None → ((q e : ℕ) → q < from → at m q ≡ Some e → e < from)
    → UpdatesBy nat_cmp (nat_cmp from) m m1 (Some until) → IsAbsorbed m1 n0 from from until end known → UpdatesBy nat_cmp (nat_cmp from) n0 n (Some end) → IsOrdered nat_cmp n → IsJoin base from until m n from from end known
new_join base from until end known m m1 n0 n a low fu none before u1 h u ordered =
    let same : (q : ℕ) → from < q → at m1 q ≡ at m q = λ q gt. others m m1 from q (Some until) u1 (λ e. omega (arith, e, gt)) in
    record {
      ordered = ordered;
      order = (low, omega arith, omega arith, omega (arith, fu), h.further, fu);
      below = λ q lt. others n0 n from q (Some end) u (λ e. omega (arith, e, lt)) ∙ h.left.kept q (omega (arith, lt)) ∙ others m m1 from q (Some until) u1 (λ e. omega (arith, e, lt));
      here = u.1;
      left = λ q e gt other. let l = h.left.left q e gt (sym (others n0 n from q (Some end) u (λ e. omega (arith, e, gt))) ∙ other) in (sym (same q gt) ∙ l.0, l.1);
      gone = λ q e gt other. elim (h.left.gone q e gt (same q gt ∙ other)) [
        | inl still ↦ inl (others n0 n from q (Some end) u (λ e. omega (arith, e, gt)) ∙ still)
        | inr past ↦ inr past
      ];
      joined = λ x low lt. let j = h.joined x low lt in (j.0, j.1, sym (same j.0 j.3) ∙ j.2, j.3, j.4, j.5);
      was = λ e other. absurd (not_none other none);
      marked = λ x low lt. absurd (omega (arith, low, lt));
      before = before;
      count = λ p t. h.count p (record {
        yes = λ s e x there after le lt. t.yes s e x (sym (same s after) ∙ there) after le lt;
        no = λ x ge out. t.no x ge (λ s e there after le lt. out s e (same s after ∙ there) after le lt);
      });
    }

-- nothing is new where all is marked
pub all_marked : (base from until : ℕ) (m : RangeMap) → ((x : ℕ) → from ≤ x → x < until → has base m x ≡ true) → 0 ≡ count_between (λ x. not (has base m x)) from until
all_marked base from until m h = sym (count_none _ from until (λ x low lt. not_from_true _ (h x low lt)))

pub same_marks : (base from until x : ℕ) (m : RangeMap) → IsOrdered nat_cmp m → ((x : ℕ) → from ≤ x → x < until → has base m x ≡ true) → has base m x ≡ (has base m x || is_between from until x)
same_marks base from until x m o h = marks_more base base from until x m m o o (λ marked. inl marked)
    (λ marked. elim marked [
      | inl old ↦ old
      | inr within ↦ (has_decides base m x o).0 (h x within.0 within.1)
    ])

none_from : (o : Option ℕ) → ((f : ℕ) → o ≡ Some f → ⊥) → o ≡ None
none_from None h = refl
none_from (Some f) h = absurd (h f refl)

pub free_after : (base from key start : ℕ) (m : RangeMap) → IsApart base m → IsLastUpTo m from (key, start) → start < from → IsFree m from
free_after base from key start m a f lt = (
  none_from (at m from) (λ e there.
      let same = f.last from (omega arith) (is_some_at there) in
      let up = f.upto in
      let wide = (a.each key start f.there).1 in
      omega (arith, same, up, wide, lt)),
  λ q e below there. elim (cases_eq q key) [
    | inl same ↦ let e' = some_is (ap (at m) (sym same) ∙ there) f.there in omega (arith, e', lt)
    | inr ne ↦
        let before = f.last q (omega (arith, below)) (is_some_at there) in
        let past = a.apart q e key start there f.there (omega (arith, before, ne)) in
        let up = f.upto in omega (arith, past, up)
  ],
)

pub free_none : (from : ℕ) (m : RangeMap) → ((q : ℕ) → q ≤ from → at m q ≡ None) → IsFree m from
free_none from m none = (none from (omega arith), λ q e below there. absurd (not_none there (none q (omega (arith, below)))))

-- a number that is not marked, and that nothing touches
free_here : (base n : ℕ) (m : RangeMap) → IsApart base m → has base m n ≡ false → ((q : ℕ) → q < n → at m q ≡ Some n → ⊥) → IsFree m n
free_here base n m a free apart =
    let out : IsIn m n → ⊥ = λ g. both_ways _ free ((has_decides base m n a.ordered).1 (inr g)) in (
      none_from (at m n) (λ e there. out (n, e, there, omega arith, (a.each n e there).1)),
      λ q e below there. elim (cases_order e n) [
        | inl same ↦ absurd (apart q below (there ∙ ap Some same))
        | inr ne ↦ elim ne [
          | inl lt ↦ lt
          | inr gt ↦ absurd (out (q, e, there, omega (arith, below), gt))
        ]
      ],
    )

-- a number above the base that is the one to be marked, and that nothing touches
pub free_alone : (base from n : ℕ) (m : RangeMap) → IsApart base m → (from ≤ base) ⊎ (from ≡ n) → base < from → has base m n ≡ false → ((q : ℕ) → q < from → at m q ≡ Some from → ⊥) → (from ≡ n) × IsFree m from
free_alone base from n m a alone above free apart =
    let same : from ≡ n = ⊎_elim (λ le. absurd (omega (arith, le, above))) (λ e. e) alone in
    (same, free_here base from m a (ap (has base m) same ∙ free) apart)

-- what holds of an outcome that did not fail, where it cannot have failed
pub sure : {A E : Type 0} (r : Result A E) (P Q : Type 0) → OnOk r P → OnErr r Q → (Q → ⊥) → P
sure (Ok x) P Q p q h = p
sure (Err e) P Q p q h = absurd (h q)
