-- `into_unboxed` moves the pointer, and what it owns goes with it.
use mathlib.Core.Path.{◌≡◌, refl, sym, subst, ap, ◌∙◌}
use mathlib.Core.List.{List, [], ◌∷◌, ◌++◌}
use Rattle.std.proofs.Common.{ℕ, Some, None, Option, IsSome, arith}
use seplogic.Ra.Ura.{Ura}
use mir.Raw.{raw as bare}
use mir.Val.{Val, vptr, vstruct, of_list}
use base.Logic.{SProp, ent, id⊢, never, fst∗}
use base.Fml.{ftrue, fsep}
use prog.Memory.{Memory}
use prog.Routine.{Routine}
use prog.Wp.{WpFn, Tables}
use types.Logic.{Logic, sem}
use contract.Monad.{Fun, fact}
use contract.Running.{tables, tables_of}
use sound.WpLaws.{WpFn-mono}
use types.Kit.{Item, ‵, raw, ◌⊛◌, ◌$◌, ◌∵◌, !, qed, by, move, drop, keep, use1, join, split, rewrite, fsplit, fsplit3, fjoin, fpick, feq_l, suffices, done}
use types.Part.{whole, sub, agg}
use types.Run.{stop, fld, no_more, and_then, of_opd, returns, enter}
use types.ByLocal.{alloc_all, pass_all, free_all, look_at, get, get_in, sets}
use denote.Exit.{yes}
use denote.RawPtr.{Ptr, block_ptr, null_ptr, ptr_val, in_a_block}
use denote.Steps.{heard, nothing}
use denote.Triple.Spec.{triple_of}
use denote.Triple.Table.{entered}
use denote.Triple.Walked.{says, Stays, stay_dropped, walk_of, ends_at, Goes-dropped, walk_Meets}
use Rattle.core.proofs.alloc.Calls.{token, handle_tells}
use Rattle.std_alloc.specs.Box.Ownership.{box_owns}
use Rattle.std_alloc.proofs.BoxSteps.Form.{D, X, τ, R, P, word, box_typed}
use Rattle.std_alloc.proofs.BoxSteps.Steps.{box_in}
use Rattle.zetampuy.proofs.Boxed.{E, FromHeld, FromHeap}
use Rattle.zetampuy.specs.Held.{held_owns}
use Rattle.zetampuy.specs.contracts.held.Held as C
use Rattle.zetampuy.specs.contracts.unboxed.Unboxed as Unboxed
use Rattle.zetampuy.specs.contracts.held.Held.into_unboxed as F
use Rattle.zetampuy.specs.contracts.held.Held.into_unboxed.Key.{name as #self}
use Rattle.zetampuy.proofs.held.Held.into_unboxed.Statement as stated
use Rattle.zetampuy.proofs.held.Held.into_unboxed.Code as code

abbrev stayed : Stays (F.ended).signature.params (F.ended).kept
stayed = (stay_dropped FromHeld yes, (stay_dropped FromHeap yes, tt))

some_of : (o : Option (X E)) → IsSome o → (x : X E) × (o ≡ Some x)
some_of None is = absurd (let z : ◌≡◌ {A = ℕ} 0 1 = cc in omega arith)
some_of (Some x) is = (x, refl)

module _ {M : Type 1} {𝓤 : Ura M} (𝓛 : Logic 𝓤) (at_mem : Memory → SProp 𝓤) (run : Routine → Fun 𝓤) (𝓣 : Tables 𝓤 𝓛.H) where
  open 𝓛 use {H}

  walk : (z : (walk_of 𝓛 F.ended stayed (F.clauses 𝓛 at_mem run)).Ghost)
      → ent 𝓤 ((walk_of 𝓛 F.ended stayed (F.clauses 𝓛 at_mem run)).pre z) (WpFn 𝓤 H 𝓣.C 𝓣.Λ code.function (z.0.4.0 ++ (z.0.4.1.0 ++ [])) ((walk_of 𝓛 F.ended stayed (F.clauses 𝓛 at_mem run)).post z))
  walk z =
      let Post = (walk_of 𝓛 F.ended stayed (F.clauses 𝓛 at_mem run)).post z in
      let h = z.0.3.0 in let g = z.0.3.1.0 in let us = z.0.4.0 in let vs = z.0.4.1.0 in
      qed 𝓛 ((‵ ftrue ⊛ ‵ (fsep (C.the_row.own_val h us) (fsep ((P E).own_val g vs) ftrue))) ∷ raw (fact 𝓤 (IsSome h.reckoner)) ∷ []) ∵
      move ! (1 ∷ []) $ heard ! (IsSome h.reckoner) (λ is.
      let found = some_of h.reckoner is in let x = found.0 in
      split ! $ drop ! $ fsplit3 ! $ move ! (1 ∷ []) $ handle_tells E.al ! g vs (λ hv ea fa. move ! (1 ∷ []) $
      fsplit ! $ fpick ! (λ vss. fsplit ! $ feq_l ! (λ ev. fsplit ! $ feq_l ! (λ ep. drop ! $
      rewrite ! 0 (λ (o : Option (X E)). ‵ (held_owns h.at o)) found.1 refl $
      in_a_block ! h.at (λ p. box_owns (token E.al g) (R E) p x) (fst∗ 𝓤 (never 𝓤) (sem 𝓛 (token E.al g (bare (τ E)) null_ptr))) (λ b o e. keep ! (0 ∷ 1 ∷ []) $ fsplit ! $
      let p = vptr b o in
      let w : Val = vstruct (of_list (p ∷ [])) in
      let is_w : us ≡ w ∷ [] = ev ∙ ap (λ (ps : List Val). vstruct (of_list (ps ++ [])) ∷ []) (ep ∙ ap (λ (q : Ptr). ptr_val q ∷ []) e) in
      let d : D E = record { ptr = block_ptr b o; alloc = g; value = x } in
      let To = Unboxed.the_row (R E) (P E) E.al.g in
      let made : To.Denot = record { ptr = block_ptr b o; alloc = g; value = x } in
      let Γ : List (Item 𝓤) = ‵ (To.own_val made (word E hv b o ∷ [])) ∷ [] in
      box_in E ! d b o x refl refl $ use1 𝓛 (‵ (To.own_val made (word E hv b o ∷ []))) (id⊢ 𝓤 _) $
      by ! (subst (λ (ws : List Val × List Val). ent 𝓤 (types.Kit.⋆ 𝓛 Γ) (WpFn 𝓤 H 𝓣.C 𝓣.Λ code.function (ws.0 ++ (ws.1 ++ [])) Post)) (λ j. (sym is_w j, sym ea j))
      (qed 𝓛 Γ ∵ enter ! 𝓣.C 𝓣.Λ code.function (w ∷ hv ∷ []) _ $ alloc_all ! (λ ls. pass_all ! refl ((tt, (tt, tt)), (fa, tt)) $
      sets ! (of_opd ! (get_in ! (fld ! refl (stop !)) (sub ! 0 refl (whole !)))) refl (tt, tt) $ sets ! (of_opd ! (get ! refl)) refl (tt, tt) $
      sets ! (agg ! (and_then ! (get ! refl) (and_then ! (get ! refl) (no_more !)))) refl (box_typed E hv b o fa) $ returns ! (look_at ! 0 refl) $ free_all ! refl $
      suffices ! _ (ends_at 𝓛 F.ended stayed (F.clauses 𝓛 at_mem run) z (word E hv b o) made (tt, (tt, tt)) (tt, (tt, tt))) $ says ! found.1 $
      nothing ! $ nothing ! $ fjoin ! $ nothing ! $ fjoin ! $ join ! $ nothing ! $ join ! $ done !)))))))))

pub into_unboxed_spec : {M : Type 1} → stated.statement M
unfolding tables_of
into_unboxed_spec 𝓤 𝓛 𝓜 𝓡 wired =
    let 𝓣 : Tables 𝓤 𝓛.H = tables_of 𝓤 𝓛.H 𝓜 (tables 𝓤 𝓛.H 𝓜 𝓡 𝓡.env) in
    entered 𝓤 𝓛.H (triple_of 𝓛 F.signature (F.spec 𝓛 𝓜.mem 𝓡.returns)) 𝓣.C 𝓣.Λ #self code.function (code.unfolded 𝓤 𝓛.H 𝓜 𝓡 wired)
    (walk_Meets 𝓛 F.ended stayed (Goes-dropped 𝓛 0 FromHeld yes (λ κs x f. refl), (Goes-dropped 𝓛 0 FromHeap yes (λ κs x f. refl), tt)) (F.clauses 𝓛 𝓜.mem 𝓡.returns) (WpFn 𝓤 𝓛.H 𝓣.C 𝓣.Λ code.function) (WpFn-mono 𝓤 𝓛.H 𝓛.laws 𝓣 code.function)
    (walk 𝓛 𝓜.mem 𝓡.returns 𝓣))
