-- The pairs of a kit, and the seats that are made of them.
use Rattle.std.proofs.Common.{◌≡◌, ℕ, zero, suc, ◌+◌, ◌<◌, Some, List, [], ◌∷◌, ◌++◌, length, map, drop, refl, sym, ap, ◌∙◌, subst, arith, append-nil}
use Rattle.std.specs.List.{slice_get}
use Rattle.std.proofs.lemmas.List.{map-append}
use Rattle.atomic_table.specs.Seated.{TableId}
use Rattle.dds_lists.specs.Lists.{Lists}
use Rattle.dds_runs.specs.World.{World, opening}
use Rattle.dds_domain.specs.Noted.{Noted}
use Rattle.dds_domain.specs.Standing.{DomainState, IsAt, IsOpening}
use Rattle.dds_book.specs.declared.entry.Entry.{Entry}
use Rattle.dds_book.specs.Halves.{HalfState, HolderState, half_of, holder_of}
use Rattle.dds_book.specs.Journal.{notes_after}
use Rattle.dds_book.specs.Kit.{ArePairs, new_half, new_holders, table_of}
use Rattle.dds_book.specs.Seat.{table_at}
use Rattle.dds_book.specs.State.{AreHolders, IsBook}
use Rattle.dds_book.proofs.JournalLaws.{journal_empty, notes_first, world_first}

-- ── pairs
halves_push : (hs : List (HalfState Entry)) (h : HalfState Entry) → hs ≡ map new_half (map table_of hs) → h.front ≡ [] → hs ++ h ∷ [] ≡ map new_half (map table_of (hs ++ h ∷ []))
halves_push hs h were empty =
    let at_end : map new_half (map table_of (hs ++ h ∷ [])) ≡ map new_half (map table_of hs) ++ new_half h.table ∷ [] = ap (map new_half) (map-append table_of hs (h ∷ [])) ∙ map-append new_half (map table_of hs) (h.table ∷ []) in
    (λ i. were i ++ half_of h.table (empty i) ∷ []) ∙ sym at_end

new_holders_push : (k : ℕ) (ts : List TableId) (t : TableId) → new_holders k (ts ++ t ∷ []) ≡ new_holders k ts ++ holder_of t (k + length ts) [] ∷ []
new_holders_push k [] t = let e : k ≡ k + 0 = omega arith in λ i. holder_of t (e i) [] ∷ []
new_holders_push k (x ∷ xs) t =
    let e : suc k + length xs ≡ k + suc (length xs) = omega arith in
    ap (λ l. holder_of x k [] ∷ l) (new_holders_push (suc k) xs t) ∙ (λ i. holder_of x k [] ∷ (new_holders (suc k) xs ++ holder_of t (e i) [] ∷ []))

length-map_tables : (hs : List (HalfState Entry)) → length (map table_of hs) ≡ length hs
length-map_tables [] = refl
length-map_tables (h ∷ hs) = ap suc (length-map_tables hs)

holders_push : (hs : List (HolderState Entry)) (halves : List (HalfState Entry)) (k : ℕ) (holder : HolderState Entry) (h : HalfState Entry) → length halves ≡ k → hs ≡ new_holders 0 (map table_of halves) → holder ≡ holder_of h.table k []
    → hs ++ holder ∷ [] ≡ new_holders 0 (map table_of (halves ++ h ∷ []))
holders_push hs halves k holder h number were is =
    let n : k ≡ 0 + length (map table_of halves) = omega (arith, length-map_tables halves) in
    let end : new_holders 0 (map table_of (halves ++ h ∷ [])) ≡ new_holders 0 (map table_of halves) ++ holder_of h.table (0 + length (map table_of halves)) [] ∷ [] =
    ap (new_holders 0) (map-append table_of halves (h ∷ [])) ∙ new_holders_push 0 (map table_of halves) h.table in
    (λ i. were i ++ is i ∷ []) ∙ (λ i. new_holders 0 (map table_of halves) ++ holder_of h.table (n i) [] ∷ []) ∙ sym end

-- one pair more
pub pairs_push : (hs now : List (HolderState Entry)) (halves halves' : List (HalfState Entry)) (k : ℕ) (holder : HolderState Entry) (h : HalfState Entry)
    → length halves ≡ k → ArePairs hs halves → holder ≡ holder_of h.table k [] → h.front ≡ [] → now ≡ hs ++ holder ∷ [] → halves' ≡ halves ++ h ∷ [] → ArePairs now halves'
pairs_push hs now halves halves' k holder h number were is empty now_is halves_is =
    let pairs : ArePairs (hs ++ holder ∷ []) (halves ++ h ∷ []) = record {
      halves_new = halves_push halves h were.halves_new empty;
      holders_new = holders_push hs halves k holder h number were.holders_new is;
    } in
    subst (λ (l : List (HolderState Entry)). ArePairs l halves') (sym now_is) (subst (ArePairs (hs ++ holder ∷ [])) (sym halves_is) pairs)

-- ── the opening
length-new_holders : (k : ℕ) (ts : List TableId) → length (new_holders k ts) ≡ length ts
length-new_holders k [] = refl
length-new_holders k (t ∷ ts) = ap suc (length-new_holders (suc k) ts)

new_at : (k : ℕ) (ts : List TableId) (j : ℕ) (h : HolderState Entry) → slice_get (new_holders k ts) j ≡ Some h → (h.table ≡ table_at ts j) × (h.owner ≡ k + j) × (h.front ≡ [])
new_at k [] j h e = absurd (cc)
new_at k (t ∷ ts) zero h e =
    let is : holder_of t k [] ≡ h = cc in
    let n : k ≡ k + 0 = omega arith in
    (ap (λ x. x.table) (sym is), ap (λ x. x.owner) (sym is) ∙ n, ap (λ x. x.front) (sym is))
new_at k (t ∷ ts) (suc j) h e = let r = new_at (suc k) ts j h e in let n : suc k + j ≡ k + suc j = omega arith in (r.0, r.1 ∙ n, r.2)

are_new : (tables : List TableId) → AreHolders tables [] (new_holders 0 tables)
are_new tables = record {
  count = length-new_holders 0 tables;
  each = λ k h at. let r = new_at 0 tables k h at in let n : 0 + k ≡ k = omega arith in record {
    table = r.0;
    owner = r.1 ∙ n;
    front = record { later = []; begins = sym (append-nil h.front ∙ r.2); none = refl };
  };
}

-- what a book keeps that was opened from a kit
pub book_opens : (plan : Lists) (tables : List TableId) (es : List Entry) (d : DomainState) (holders : List (HolderState Entry)) → es ≡ [] → d.checked.plan ≡ plan → IsOpening d → holders ≡ new_holders 0 tables
    → IsBook plan tables es d holders 0
book_opens plan tables es d holders none same fresh are =
    subst (λ (l : List Entry). IsBook plan tables l d holders 0) (sym none) (record {
      same_plan = same;
      stands = subst (λ (v : World). IsAt v (notes_after plan []) d) (sym (world_first plan)) (subst (λ (n : Noted). IsAt opening n d) (sym (notes_first plan)) fresh);
      journal = journal_empty plan;
      fronts = subst (AreHolders tables []) (sym are) (are_new tables);
      counted = refl;
    })

-- ── seats
-- the next of the halves that are left
pub next_half : (tables : List TableId) (n : ℕ) (x : HalfState Entry) (rest now : List (HalfState Entry)) → rest ≡ map new_half (drop n tables) → rest ≡ x ∷ now
    → (n < length tables) × (x ≡ new_half (table_at tables n)) × (now ≡ map new_half (drop (n + 1) tables))
next_half tables n x rest now is next =
    let r = go tables n (sym is ∙ next) in
    let e : suc n ≡ n + 1 = omega arith in
    (r.0, r.1, r.2 ∙ ap (λ k. map new_half (drop k tables)) e)
  where
    go : (ts : List TableId) (m : ℕ) → map new_half (drop m ts) ≡ x ∷ now → (m < length ts) × (x ≡ new_half (table_at ts m)) × (now ≡ map new_half (drop (suc m) ts))
    go [] zero e = absurd (cc)
    go [] (suc m) e = absurd (cc)
    go (t ∷ ts) zero e = let a : x ≡ new_half t = cc in let b : now ≡ map new_half ts = cc in (omega arith, a, b)
    go (t ∷ ts) (suc m) e = let r = go ts m e in let low = r.0 in (omega arith, r.1, r.2)

-- nothing is left
pub none_left : {X : Type 0} (n : ℕ) (xs : List X) → n ≡ length xs → n ≡ 0 → xs ≡ []
none_left n [] is zero_is = refl
none_left n (x ∷ xs) is zero_is = absurd (omega arith)
