-- One range absorbed, and the end.
use Rattle.std.proofs.Common.{◌≡◌, ℕ, ◌+◌, ◌-◌, ◌<◌, ◌≤◌, Bool, None, Some, refl, sym, ap, ◌∙◌, arith, inl, inr}
use Rattle.std.specs.Ordering.{nat_cmp}
use Rattle.std.specs.BTreeMap.{UpdatesBy, IsOrdered}
use Rattle.std.proofs.lemmas.Bool.{cases_lt, cases_eq}
use Rattle.dds_base.specs.Counts.{count_between}
use Rattle.dds_base.proofs.CountLaws.{count_join, count_all, count_none}
use Rattle.dds_reader.specs.Ranges.{at, RangeMap, IsAbove, IsFirstIn, NoneIn, IsLeft, IsJoined, Tests, IsAbsorbed}
use Rattle.dds_reader.proofs.RangeLaws.{others, some_is, not_none, is_some_at}

pub left_start : (m : RangeMap) (key start : ℕ) → IsAbove m key start → IsLeft m m key start
left_start m key start above = record {
  kept = λ q le. refl;
  left = λ q e lt there. (there, (above.each q e there lt).0);
  gone = λ q e lt there. inl there;
}

pub left_step : (old m n : RangeMap) (key start cursor end from to : ℕ) → IsAbove old key start → IsLeft old m key cursor → IsFirstIn m key end (from, to) → UpdatesBy nat_cmp (nat_cmp from) m n None → IsLeft old n key to
left_step old m n key start cursor end from to above l f u =
    let here = l.left from to f.after f.there in
    let range = above.each from to here.0 f.after in
    record {
      kept = λ q le. others m n from q None u (λ e. omega (arith, f.after)) ∙ l.kept q le;
      left = λ q e lt there. elim (cases_eq q from) [
        | inl same ↦ absurd (not_none there (ap (at n) same ∙ u.1))
        | inr ne ↦
            let was = sym (others m n from q None u ne) ∙ there in
            let old-was = (l.left q e lt was).0 in
            let after : from < q = omega (arith, f.first q lt (is_some_at was), ne) in
            (old-was, above.apart from to q e here.0 old-was f.after after)
      ];
      gone = λ q e lt there. elim (l.gone q e lt there) [
        | inl still ↦ elim (cases_eq q from) [
          | inl same ↦ inr (let h = some_is (ap (at m) (sym same) ∙ still) f.there in omega arith)
          | inr ne ↦ inl (others m n from q None u ne ∙ still)
        ]
        | inr past ↦ inr (omega (arith, here.1, range.1))
      ];
    }

pub joined_start : (old : RangeMap) (key until : ℕ) → IsJoined old key until until
joined_start old key until = λ n a b. absurd (omega arith)

pub joined_step : (old : RangeMap) (key until end from to : ℕ) → IsJoined old key until end → at old from ≡ Some to → key < from → from ≤ end → IsJoined old key until to
joined_step old key until end from to j there after upto = λ n low high. elim (cases_lt n end) [
  | inl lt ↦ j n low lt
  | inr ge ↦ (from, to, there, after, omega arith, high)
]

-- nothing passes between the cursor and the next range
none_between : (old m : RangeMap) (key start cursor high : ℕ) (p : ℕ → Bool) → IsLeft old m key cursor → Tests old key start p → start ≤ cursor → ((q e : ℕ) → key < q → at m q ≡ Some e → high ≤ q) → count_between p cursor high ≡ 0
none_between old m key start cursor high p l t le none = count_none p cursor high (λ n low below. t.no n (omega arith)
    (λ s e there after sn ne. elim (l.gone s e after there) [
      | inl still ↦ let h = none s e after still in omega arith
      | inr past ↦ omega arith
    ]))

pub count_step : (old m : RangeMap) (key start cursor end from to known : ℕ) (p : ℕ → Bool) → IsAbove old key start → IsLeft old m key cursor → IsFirstIn m key end (from, to) → Tests old key start p → start ≤ cursor → known ≡ count_between p start cursor → known + (to - from) ≡ count_between p start to
count_step old m key start cursor end from to known p above l f t le is =
    let here = l.left from to f.after f.there in
    let range = above.each from to here.0 f.after in
    let gap = none_between old m key start cursor from p l t le (λ q e lt there. f.first q lt (is_some_at there)) in
    let all = count_all p from to (λ n low high. t.yes from to n here.0 f.after low high) in
    let first = count_join p start cursor to le (omega (arith, here.1, range.1)) in
    let second = count_join p cursor from to (omega (arith, here.1)) (omega (arith, range.1)) in
    omega (arith, gap, all, first, second, is)

pub absorbed : (old m : RangeMap) (key start until cursor end known : ℕ) → IsOrdered nat_cmp m → start ≤ cursor → cursor ≤ end → until ≤ end → IsLeft old m key cursor → NoneIn m key end → IsJoined old key until end → ((p : ℕ → Bool) → Tests old key start p → known ≡ count_between p start cursor) → known ≤ cursor - start → IsAbsorbed old m key start until end known
absorbed old m key start until cursor end known ordered sc ce ue l none j count small =
    let past : (q e : ℕ) → key < q → at m q ≡ Some e → end < q = λ q e lt there. elim (cases_lt end q) [
      | inl after ↦ after
      | inr before ↦ absurd (not_none there (none q lt before))
    ] in
    record {
      ordered = ordered;
      further = ue;
      left = record {
        kept = l.kept;
        left = λ q e lt there. ((l.left q e lt there).0, past q e lt there);
        gone = λ q e lt there. elim (l.gone q e lt there) [
          | inl still ↦ inl still
          | inr gone ↦ inr (omega (arith, gone))
        ];
      };
      joined = j;
      small = omega (arith, small);
      count = λ p t.
          let rest = none_between old m key start cursor end p l t sc (λ q e lt there. let h = past q e lt there in omega arith) in
          omega (arith, count p t, rest, count_join p start cursor end sc ce);
    }
