-- `into_raw` copies the address and the allocator out of an open handle: the parts own what it owned.
use mathlib.Core.Path.{◌≡◌, refl, sym, subst}
use mathlib.Core.List.{List, [], ◌∷◌, ◌++◌}
use mathlib.Core.Bool.{Bool, true}
use seplogic.Ra.Ura.{Ura}
use mir.Val.{Val}
use base.Logic.{SProp, ent, id⊢}
use base.Fml.{ftrue, fsep}
use prog.Memory.{Memory}
use prog.Routine.{Routine}
use prog.Wp.{WpFn, Tables}
use types.Logic.{Logic}
use contract.Monad.{Fun, fact}
use contract.Running.{tables, tables_of}
use sound.WpLaws.{WpFn-mono}
use types.Kit.{Item, ‵, raw, ◌⊛◌, ◌$◌, ◌∵◌, !, qed, by, move, drop, use1, join, split, fsplit, fjoin, rewrite, suffices, done}
use types.Part.{whole, sub, agg}
use types.Run.{stop, fld, no_more, and_then, of_opd, returns, enter}
use types.ByLocal.{alloc_all, pass_all, free_all, look_at, get, get_in, sets}
use denote.Exit.{yes}
use denote.Signature.{type_at}
use denote.Steps.{heard, nothing}
use denote.Triple.Spec.{triple_of}
use denote.Triple.Table.{entered}
use denote.Triple.Walked.{says, Stays, stay_dropped, walk_of, ends_at, Goes-dropped, walk_Meets}
use Rattle.std_alloc.proofs.BoxSteps.Form.{D, B, word, box_typed}
use Rattle.std_alloc.proofs.BoxSteps.Steps.{box_out, box_in}
use Rattle.dds_guard_c.proofs.Rows.{boxed, handle_slot}
use Rattle.dds_guard_c.specs.contracts.handle.Handle as Handle
use Rattle.dds_guard_c.specs.contracts.handle.Handle.into_raw as promised
use Rattle.dds_guard_c.specs.contracts.handle.Handle.into_raw.Key.{name as #self}
use Rattle.dds_guard_c.proofs.handle.Handle.into_raw.Statement as stated
use Rattle.dds_guard_c.proofs.handle.Handle.into_raw.Code as code

abbrev stayed : Stays promised.ended.signature.params promised.ended.kept
stayed = (stay_dropped handle_slot yes, tt)

module _ {M : Type 1} {𝓤 : Ura M} (𝓛 : Logic 𝓤) (at_mem : Memory → SProp 𝓤) (run : Routine → Fun 𝓤) (𝓣 : Tables 𝓤 𝓛.H) where
  open 𝓛 use {H}

  walk : (z : (walk_of 𝓛 promised.ended stayed (promised.clauses 𝓛 at_mem run)).Ghost)
      → ent 𝓤 ((walk_of 𝓛 promised.ended stayed (promised.clauses 𝓛 at_mem run)).pre z)
      (WpFn 𝓤 H 𝓣.C 𝓣.Λ code.function (z.0.4.0 ++ []) ((walk_of 𝓛 promised.ended stayed (promised.clauses 𝓛 at_mem run)).post z))
  walk z =
      let Post = (walk_of 𝓛 promised.ended stayed (promised.clauses 𝓛 at_mem run)).post z in
      let h : Handle.the_row.Denot = z.0.3.0 in
      let given : D boxed = record { ptr = h.at; alloc = h.alloc; value = h.guard } in
      let Made = type_at (promised.signature).result tt in
      let made : Made.Denot = record { at = given.ptr; alloc = given.alloc; value = given.value } in
      qed 𝓛 ((‵ ftrue ⊛ ‵ (fsep (Handle.the_row.own_val h z.0.4.0) ftrue)) ∷ raw (fact 𝓤 (h.is_open ≡ true)) ∷ []) ∵ split ! $ drop ! $ fsplit ! $
      -- an open handle owns what a box does
      move ! (2 ∷ []) $ heard ! (h.is_open ≡ true) (λ open_is.
      rewrite ! 0 (λ (x : Bool). ‵ (Handle.the_row.own_val (record h { is_open = x }) z.0.4.0)) open_is refl $
      use1 𝓛 (‵ ((B boxed).own_val given z.0.4.0)) (id⊢ 𝓤 _) $
      box_out boxed ! given z.0.4.0 (λ b o hv e words fits. box_in boxed ! given b o given.value e refl $
      let w = word boxed hv b o in
      use1 𝓛 (‵ (Made.own_val made (w ∷ []))) (id⊢ 𝓤 _) $ move ! (1 ∷ []) $ drop ! $
      let Γ : List (Item 𝓤) = ‵ (Made.own_val made (w ∷ [])) ∷ [] in
      by ! (subst (λ (us : List Val). ent 𝓤 (types.Kit.⋆ 𝓛 Γ) (WpFn 𝓤 H 𝓣.C 𝓣.Λ code.function (us ++ []) Post)) (sym words)
      (qed 𝓛 Γ ∵ enter ! 𝓣.C 𝓣.Λ code.function (w ∷ []) _ $ alloc_all ! (λ ls. pass_all ! refl (box_typed boxed hv b o fits, tt) $
      sets ! (of_opd ! (get_in ! (fld ! refl (stop !)) (sub ! 0 refl (whole !)))) refl (tt, tt) $
      sets ! (of_opd ! (get_in ! (fld ! refl (stop !)) (sub ! 1 refl (whole !)))) refl fits $
      sets ! (of_opd ! (get ! refl)) refl (tt, tt) $
      sets ! (agg ! (and_then ! (get ! refl) (and_then ! (get ! refl) (no_more !)))) refl (box_typed boxed hv b o fits) $
      returns ! (look_at ! 0 refl) $ free_all ! refl $
      suffices ! _ (ends_at 𝓛 promised.ended stayed (promised.clauses 𝓛 at_mem run) z w made (tt, tt) (tt, tt)) $ says ! refl $
      nothing ! $ nothing ! $ fjoin ! $ join ! $ nothing ! $ join ! $ done !)))))

pub into_raw_spec : {M : Type 1} → stated.statement M
unfolding tables_of
into_raw_spec 𝓤 𝓛 𝓜 𝓡 wired =
    let 𝓣 : Tables 𝓤 𝓛.H = tables_of 𝓤 𝓛.H 𝓜 (tables 𝓤 𝓛.H 𝓜 𝓡 𝓡.env) in
    entered 𝓤 𝓛.H (triple_of 𝓛 promised.signature (promised.spec 𝓛 𝓜.mem 𝓡.returns)) 𝓣.C 𝓣.Λ #self code.function (code.unfolded 𝓤 𝓛.H 𝓜 𝓡 wired)
    (walk_Meets 𝓛 promised.ended stayed (Goes-dropped 𝓛 0 handle_slot yes (λ κs x w. refl), tt) (promised.clauses 𝓛 𝓜.mem 𝓡.returns)
    (WpFn 𝓤 𝓛.H 𝓣.C 𝓣.Λ code.function) (WpFn-mono 𝓤 𝓛.H 𝓛.laws 𝓣 code.function) (walk 𝓛 𝓜.mem 𝓡.returns 𝓣))
