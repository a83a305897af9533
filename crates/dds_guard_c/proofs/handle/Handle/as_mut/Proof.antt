-- `as_mut` lends the guard behind an open handle, and the handle follows it.
use mathlib.Core.Path.{◌≡◌, refl, sym}
use mathlib.Core.Bool.{Bool, true}
use Prim.Native.Nat.{ℕ}
use mathlib.Core.List.{List, [], ◌∷◌}
use seplogic.Ra.Ura.{Ura}
use base.Fraction.{full_share}
use mir.Syntax.{named}
use mir.Raw.{raw as bare}
use mir.Val.{Val, vptr}
use base.Logic.{SProp, ent, sep}
use base.Fml.{Lft, GName, Share, Fml, ftrue, flft, fsep}
use prog.Memory.{Memory}
use prog.Routine.{Routine}
use prog.Wp.{Env, Calls, Loops, WpFn, Tables}
use types.Logic.{Logic, sem}
use contract.Monad.{Fun, fact}
use contract.Running.{tables, tables_of}
use sound.WpLaws.{WpFn-mono}
use types.Kit.{‵, ◌⊛◌, some, at_ret, ◌$◌, ◌∵◌, !, qed, by, move, keep, use1, drop, split, join, pick, fsplit, fsplit3, fjoin, suffices, frame, done, raw, later, await, group, fpack, rewrite}
use types.Part.{whole, sub, look_in}
use types.Run.{stop, fld, load, of_opd, first, blocks, exec, returns, enter, addr}
use types.ByLocal.{alloc_all, pass_all, free_all, look_at, get, through, sets, env, sets_last}
use denote.Exit.{no}
use denote.Follow.{follows, Part, lends_Part}
use denote.Memory.{part_at, mem, cell_at, part_of}
use denote.RattleType.{RattleType, owns}
use denote.RawPtr.{block_ptr}
use denote.Ref.{MutRef, mut_vals, mut_Tells}
use denote.Signature.{plain, mut_ref_to}
use denote.Steps.{heard, nothing, opens}
use denote.Triple.Entry.{on_entry}
use denote.Triple.Spec.{triple_of, Meets}
use denote.Triple.Table.{entered}
use denote.Triple.Walked.{says, Stays, stay_dropped, walk_of, ends_at, walked, walk_Meets, Goes-spent_ref}
use Rattle.core.proofs.alloc.Calls.{token}
use Rattle.std_alloc.proofs.VecSteps.Shapes.{after}
use Rattle.std_alloc.proofs.BoxSteps.Form.{D, B, τ, word, handle}
use Rattle.std_alloc.proofs.BoxSteps.Steps.{box_out, box_in}
use Rattle.dds_guard_c.specs.Follows.{with_guard}
use Rattle.dds_guard_c.proofs.Rows.{boxed}
use Rattle.dds_guard.specs.contracts.guard.Guard as Guard
use Rattle.dds_guard_c.specs.contracts.handle.Handle as Handle
use Rattle.dds_guard_c.specs.contracts.handle.Handle.as_mut as promised
use Rattle.dds_guard_c.specs.contracts.handle.Handle.as_mut.Key.{name as #self}
use Rattle.dds_guard_c.proofs.handle.Handle.as_mut.Statement as stated
use Rattle.dds_guard_c.proofs.handle.Handle.as_mut.Code as code

abbrev H-row : RattleType
H-row = Handle.the_row

abbrev G-row : RattleType
G-row = Guard.the_row

abbrev stayed : Stays promised.ended.signature.params promised.ended.kept
stayed = (stay_dropped (mut_ref_to (0 ∷ []) tt (plain (λ _. H-row))) no, tt)

module _ {M : Type 1} {𝓤 : Ura M} (𝓛 : Logic 𝓤) (at_mem : Memory → SProp 𝓤) (run : Routine → Fun 𝓤) (κ : Lft) (q : Share) (rb ro : ℕ) (γ : GName) (h : H-row.Denot) (is_open : h.is_open ≡ true) where
  open 𝓛 use {H, A}

  abbrev bound : (walk_of 𝓛 promised.ended stayed (promised.clauses 𝓛 at_mem run)).Ghost
  bound = (((κ, tt), (q, tt), tt, (record { ref_ptr = (rb, ro); ghost_name = γ; now = h }, tt), (vptr rb ro ∷ [], tt)), tt)

  abbrev Post : Val → SProp 𝓤
  Post = (walk_of 𝓛 promised.ended stayed (promised.clauses 𝓛 at_mem run)).post bound

  abbrev as_box : D boxed
  as_box = record { ptr = h.at; alloc = h.alloc; value = h.guard }

  -- what an open handle owns, by the guard behind it
  opened : (x : G-row.Denot) (vs : List Val) → ent 𝓤 (sem 𝓛 (H-row.own_val (with_guard h x) vs)) (sem 𝓛 ((B boxed).own_val (record as_box { value = x }) vs))
  opened x vs = qed 𝓛 (‵ (H-row.own_val (with_guard h x) vs) ∷ []) ∵
      rewrite ! 0 (λ (y : Bool). ‵ (H-row.own_val (record (with_guard h x) { is_open = y }) vs)) is_open refl $ done !

  shut : (x : G-row.Denot) (vs : List Val) → ent 𝓤 (sem 𝓛 ((B boxed).own_val (record as_box { value = x }) vs)) (sem 𝓛 (H-row.own_val (with_guard h x) vs))
  shut x vs = qed 𝓛 (‵ (H-row.own_val (record (with_guard h x) { is_open = true }) vs) ∷ []) ∵
      rewrite ! 0 (λ (y : Bool). ‵ (H-row.own_val (record (with_guard h x) { is_open = y }) vs)) (sym is_open) refl $ done !

  module _ (b o : ℕ) (hv : Val) where
    -- all of the handle but the guard
    abbrev Rest : Fml
    Rest = fsep (fsep (token boxed.al h.alloc (bare (τ boxed)) (block_ptr b o)) (handle boxed h.alloc hv)) (cell_at full_share H-row.mir (word boxed hv b o ∷ []) rb ro)

    back : h.at ≡ block_ptr b o → (x : G-row.Denot) → ent 𝓤 (sep 𝓤 (sem 𝓛 ((mem G-row).own_at x b o)) (sem 𝓛 Rest)) (sem 𝓛 ((mem H-row).own_at (with_guard h x) rb ro))
    unfolding part_of
    back at_b x =
        qed 𝓛 (‵ (part_at G-row full_share x b o) ∷ ‵ Rest ∷ []) ∵ move ! (1 ∷ []) $ fsplit ! $ fsplit ! $ move ! (3 ∷ []) $
        box_in boxed ! (record as_box { value = x }) b o x at_b refl $ use1 𝓛 (‵ (H-row.own_val (with_guard h x) (word boxed hv b o ∷ []))) (shut x (word boxed hv b o ∷ [])) $
        move ! (1 ∷ 0 ∷ []) $ fjoin ! $
        fpack ! (List Val) (λ us. fsep (cell_at full_share H-row.mir us rb ro) (H-row.own_val (with_guard h x) us)) (word boxed hv b o ∷ []) $ done !

    lent : (γ' : GName) → ent 𝓤 (sep 𝓤 (sem 𝓛 ((MutRef (named 0) κ G-row).own_val (record { ref_ptr = (b, o); ghost_name = γ'; now = h.guard }) (vptr b o ∷ [])))
        (sep 𝓤 (A.lft κ q) (sem 𝓛 (follows H-row G-row γ γ' (with_guard h))))) (Post (vptr b o))
    lent γ' =
        qed 𝓛 (‵ ((MutRef (named 0) κ G-row).own_val (record { ref_ptr = (b, o); ghost_name = γ'; now = h.guard }) (vptr b o ∷ [])) ∷ ‵ (flft κ q) ∷ ‵ (follows H-row G-row γ γ' (with_guard h)) ∷ []) ∵
        suffices ! _ (ends_at 𝓛 promised.ended stayed (promised.clauses 𝓛 at_mem run) bound (vptr b o) (record { ref_ptr = (b, o); ghost_name = γ'; now = h.guard }) (tt, tt) (tt, tt)) $
        nothing ! $ nothing ! $ fjoin ! $ join ! $ nothing ! $ move ! (2 ∷ 0 ∷ []) $ join ! $ join ! $ frame ! $ says ! refl $ done !

  module _ (C : Calls 𝓤 H) (Λ : Loops 𝓤 H) where
    walk : ent 𝓤 (on_entry 𝓛 promised.signature (κ, tt) (q, tt) (record { ref_ptr = (rb, ro); ghost_name = γ; now = h }, tt) (vptr rb ro ∷ [], tt)) (WpFn 𝓤 H C Λ code.function (vptr rb ro ∷ []) Post)
    walk =
        qed 𝓛 ((‵ (flft κ q) ⊛ ‵ ftrue) ∷ ‵ (owns (MutRef (named 0) κ H-row ∷ []) (record { ref_ptr = (rb, ro); ghost_name = γ; now = h }, tt) (vptr rb ro ∷ [], tt)) ∷ []) ∵
        enter ! C Λ code.function (vptr rb ro ∷ []) _ $
        alloc_all ! (λ l. pass_all ! refl ((tt, tt), tt) $
        let En : Env 𝓤 H = env (code.function).locals l in
        move ! (1 ∷ []) $ fsplit ! $ fsplit3 ! $ drop ! $ move ! (3 ∷ []) $ split ! $ move ! (2 ∷ 3 ∷ 0 ∷ []) $
        opens ! tt H-row {h = h} rb ro (λ vs. move ! (1 ∷ []) $ use1 𝓛 (‵ ((B boxed).own_val as_box vs)) (opened h.guard vs) $
        box_out boxed ! as_box vs (λ b o hv at_b words fits. move ! (1 ∷ 2 ∷ []) $ fjoin ! $ move ! (1 ∷ []) $
        rewrite ! 2 (λ (us : List Val). ‵ (cell_at full_share H-row.mir us rb ro)) words refl $
        -- [the guard; the right to free it and the allocator; the handle's word; the open borrow, in three entries]
        first ! $ blocks ! $
        sets ! (of_opd ! (load ! (through ! refl (fld ! refl (stop !))) (look_in ! 2 (sub ! 0 refl (whole !))))) refl (tt, tt) $
        sets ! (of_opd ! (get ! refl)) refl (tt, tt) $
        sets_last ! (addr ! (through ! refl (stop !))) refl (tt, tt) $
        exec ! C Λ En (after 1 (code.function).body) (at_ret En Post) $
        sets ! (of_opd ! (get ! refl)) refl (tt, tt) $
        move ! (1 ∷ 2 ∷ []) $ fjoin ! $ move ! (2 ∷ 3 ∷ 4 ∷ 1 ∷ 0 ∷ []) $ group ! 5 $
        use1 𝓛 (later (some (λ (γ' : GName). raw (Part 𝓛 H-row G-row (with_guard h) (named 0) κ q rb ro b o γ (sem 𝓛 (Rest b o hv)) (back b o hv at_b) h.guard γ'))))
        (lends_Part 𝓛 H-row G-row (with_guard h) (named 0) κ q rb ro b o γ (sem 𝓛 (Rest b o hv)) (back b o hv at_b) (H-row.coded.code h) (H-row.coded.code h) h.guard) $
        await ! tt $ pick ! (λ γ'. returns ! (look_at ! 0 refl) $ free_all ! refl $ keep ! (0 ∷ []) $ by ! (lent b o hv γ')))))

meets : {M : Type 1} {𝓤 : Ura M} (𝓛 : Logic 𝓤) (at_mem : Memory → SProp 𝓤) (run : Routine → Fun 𝓤) (𝓣 : Tables 𝓤 𝓛.H)
    → Meets 𝓛 promised.signature (WpFn 𝓤 𝓛.H 𝓣.C 𝓣.Λ code.function) (promised.spec 𝓛 at_mem run)
meets {𝓤 = 𝓤} 𝓛 at_mem run 𝓣 =
    walk_Meets 𝓛 promised.ended stayed (Goes-spent_ref 𝓛 1 (0 ∷ []) tt (plain (λ _. H-row)), tt) (promised.clauses 𝓛 at_mem run) (WpFn 𝓤 𝓛.H 𝓣.C 𝓣.Λ code.function) (WpFn-mono 𝓤 𝓛.H 𝓛.laws 𝓣 code.function)
    (walked 𝓛 promised.ended stayed (promised.clauses 𝓛 at_mem run) (WpFn 𝓤 𝓛.H 𝓣.C 𝓣.Λ code.function) (λ κs. (mut_vals, tt)) (λ κs. (mut_Tells (named 0) κs.0 H-row, tt))
    (λ κs qs bounds a g are.
    qed 𝓛 (raw (on_entry 𝓛 promised.signature κs qs a (vptr a.0.ref_ptr.0 a.0.ref_ptr.1 ∷ [], tt)) ∷ raw (fact 𝓤 (a.0.now.is_open ≡ true)) ∷ []) ∵
    move ! (1 ∷ []) $ heard ! (a.0.now.is_open ≡ true) (λ open_is. by ! (walk 𝓛 at_mem run κs.0 qs.0 a.0.ref_ptr.0 a.0.ref_ptr.1 a.0.ghost_name a.0.now open_is 𝓣.C 𝓣.Λ))))

pub as_mut_spec : {M : Type 1} → stated.statement M
unfolding tables_of
as_mut_spec 𝓤 𝓛 𝓜 𝓡 wired =
    let 𝓣 : Tables 𝓤 𝓛.H = tables_of 𝓤 𝓛.H 𝓜 (tables 𝓤 𝓛.H 𝓜 𝓡 𝓡.env) in
    entered 𝓤 𝓛.H (triple_of 𝓛 promised.signature (promised.spec 𝓛 𝓜.mem 𝓡.returns)) 𝓣.C 𝓣.Λ #self code.function (code.unfolded 𝓤 𝓛.H 𝓜 𝓡 wired) (meets 𝓛 𝓜.mem 𝓡.returns 𝓣)
