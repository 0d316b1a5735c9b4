-- `give_up` tests the pointer: a handle that has nothing is null, and a block is not.
use Rattle.std.proofs.Common.{◌≡◌, List, [], ◌∷◌, ◌++◌, refl, sym, ap, ◌∙◌, subst, Option, Some, None}
use lib.Dec.{lit<}
use mir.Raw.{raw as bare}
use mir.Val.{Val, vptr, vcons, vnil}
use base.Logic.{SProp, ent, emp, never, id⊢, via, fst∗, snd∗, guard_i}
use base.Fml.{Fml}
use prog.Wp.{WpFn}
use types.Logic.{sem}
use types.Kit.{⋆, ‵, raw, ◌⊛◌, given, at_ret, ◌$◌, ◌∵◌, !, qed, by, move, keep, split, fsplit3, fjoin, learn, suffices, use0, use1, rewrite, feq_l}
use types.Run.{stop, fld, lit, of_opd, bin, no_more, and_then, first, branches, skips, exec, returns, returns_within, enter}
use types.ByLocal.{alloc_all, pass_all, free_all, look_at, get, get_in, sets, env}
use types.Part.{agg, sub, whole}
use types.Match.{live}
use contract.Monad.{fact, fact_i, fact_use}
use contract.Running.{tables}
use denote.Exit.{yes}
use denote.RattleType.{RattleType, owns}
use denote.Memory.{lone}
use denote.Signature.{types_at, type_at, plain}
use denote.RawPtr.{Ptr, block_ptr, null_ptr, ptr_val, in_a_block, tests_null, Testable}
use denote.Steps.{nothing}
use denote.Param.{layout}
use denote.Triple.Entry.{alive}
use denote.Triple.Walked.{Stays, stay_dropped, walk_of, Goes-dropped}
use Rattle.core.specs.Ptr.{points_to}
use Rattle.core.proofs.alloc.Calls.{Goes-blank}
use Rattle.core.proofs.atomic.Steps.{Ptr-Good}
use Rattle.core.proofs.cell.Inside.{Good, one}
use Rattle.core.proofs.option.Made.{Some-of, none_of}
use Rattle.std_alloc.proofs.ResultValues.{and_tt}
use Rattle.std_alloc.specs.Box.Ownership.{box_owns}
use Rattle.std.proofs.alloc.Global.TheLaws as heap_laws
use Rattle.std.proofs.GlobalToken.{dealloc_token-Testable}
use Rattle.std_heap.specs.contracts.GlobalAllocator.TheImpl.{ghosts}
use Rattle.std.proofs.raw_atomic.Walks.{proved_at, leaves}
use Rattle.pc_c.specs.Held.{box_or_null, may_free}
use Rattle.pc_c.proofs.UnboxedValues.{word, Unboxed, word_is_typed, closed}
use Rattle.pc_c.proofs.HandleValues.{R, Z, one_field, handle_out}
use Rattle.pc_c.specs.contracts.handle.Handle as handle
use Rattle.pc_c.specs.contracts.handle.Handle.give_up.{ended, clauses}
use Rattle.pc_c.specs.contracts.handle.Handle.give_up.Key.{name as #self}
use Rattle.pc_c.proofs.handle.Handle.give_up.Statement.{statement}
use Rattle.pc_c.proofs.handle.Handle.give_up.Code as code

pub give_up_spec : {M : Type 1} → statement M
give_up_spec 𝓤 𝓛 𝓜 𝓡 wired =
    let H = 𝓛.H in let 𝓣 = tables 𝓤 H 𝓜 𝓡 𝓡.env in let En = ended in let c = clauses 𝓛 𝓜.mem 𝓡.returns in let fn = code.function in let LZ = heap_laws.the_row_laws in
    let L : RattleType = Unboxed R Z LZ ghosts in
    let hs : Stays En.signature.params En.kept = (stay_dropped (plain (λ _. handle.the_row)) yes, (stay_dropped (plain (λ _. Z)) yes, tt)) in
    proved_at 𝓛 En hs c 𝓜 𝓡 (Goes-blank 𝓛 0 (plain (λ _. handle.the_row)) yes (λ κs x f. tt), (Goes-dropped 𝓛 0 (plain (λ _. Z)) yes (λ κs x f. refl), tt)) #self fn (code.unfolded 𝓤 H 𝓜 𝓡 wired) (λ z are.
    let κs = z.0.0 in let qs = z.0.1 in let d = z.0.3.0 in let a = z.0.3.1.0 in let Post : Val → SProp 𝓤 = (walk_of 𝓛 En hs c).post z in let Run : List Val → SProp 𝓤 = λ ws. WpFn 𝓤 H 𝓣.C 𝓣.Λ fn ws Post in let Out : RattleType = type_at En.signature.result κs in
    let h = one (layout Z) z.0.4.1.0 ((LZ.lawful 𝓛).typed a z.0.4.1.0 are.1.0) in
    let toks = raw (alive 𝓛 En.signature κs qs) in
    let start : (p : Ptr) → d.at ≡ p → z.0.4.0 ≡ one_field (ptr_val d.at) ∷ [] → ent 𝓤 (Run (one_field (ptr_val p) ∷ h.0 ∷ [])) (Run (z.0.4.0 ++ (z.0.4.1.0 ++ []))) =
    λ p e ws. subst (λ (us : List Val). ent 𝓤 (Run (one_field (ptr_val p) ∷ h.0 ∷ [])) (Run us)) (sym (λ i. (ws ∙ ap (λ (r : Ptr). one_field (ptr_val r) ∷ []) e) i ++ (h.1 i ++ []))) (id⊢ 𝓤 _) in
    let Γ₀ : Option R.Denot → SProp 𝓤 = λ x. ⋆ 𝓛 (‵ (box_or_null R d.at x) ∷ ‵ (Z.own_val a (h.0 ∷ [])) ∷ toks ∷ []) in
    let empty : d.value ≡ None → z.0.4.0 ≡ one_field (ptr_val d.at) ∷ [] → ent 𝓤 (Γ₀ None) (Run (z.0.4.0 ++ (z.0.4.1.0 ++ []))) = λ e ws.
    qed 𝓛 (‵ (box_or_null R d.at None) ∷ ‵ (Z.own_val a (h.0 ∷ [])) ∷ toks ∷ []) ∵ feq_l ! (λ null. keep ! (1 ∷ []) $
    suffices ! (Run (one_field (ptr_val null_ptr) ∷ h.0 ∷ [])) (start null_ptr null ws) $
    enter ! 𝓣.C 𝓣.Λ fn (one_field (ptr_val null_ptr) ∷ h.0 ∷ []) Post $ alloc_all ! (λ l. pass_all ! refl ((tt, (record { fits = lit< tt }, tt)), (h.2, tt)) $
    sets ! (of_opd ! (get_in ! (fld ! refl (stop !)) (sub ! 0 refl (whole !)))) refl (Ptr-Good null_ptr) $
    sets ! (bin ! (get ! refl) (lit ! tt) tt) refl (tt, tt) $
    first ! $ branches ! (get ! refl)
    (λ _. sets ! (agg ! (and_then ! (lit ! tt) (no_more !))) refl (tt, (record { fits = lit< tt }, tt)) $
    returns_within ! Post refl (look_at ! 0 refl) $ free_all ! refl $
    use0 𝓛 (‵ (Out.own_val None (live 0 vnil ∷ []))) (none_of 𝓛 L) $
    use0 𝓛 (raw (fact 𝓤 (d.value ≡ None))) (fact_i 𝓤 (d.value ≡ None) (emp 𝓤) e) $ nothing ! $ nothing ! $ fjoin ! $ nothing ! $ fjoin ! $
    keep ! (3 ∷ 0 ∷ 2 ∷ 1 ∷ []) $ by ! (leaves 𝓛 En hs c z (live 0 vnil) None (tt, (tt, tt)) (tt, (tt, tt))))
    (λ wrong. absurd wrong))) in
    let whole_one : (x : R.Denot) → d.value ≡ Some x → z.0.4.0 ≡ one_field (ptr_val d.at) ∷ [] → ent 𝓤 (Γ₀ (Some x)) (Run (z.0.4.0 ++ (z.0.4.1.0 ++ []))) = λ x e ws.
    qed 𝓛 (‵ (box_owns may_free R d.at x) ∷ ‵ (Z.own_val a (h.0 ∷ [])) ∷ toks ∷ []) ∵
    in_a_block ! d.at (λ p. box_owns may_free R p x) (fst∗ 𝓤 (never 𝓤) (sem 𝓛 (may_free (bare (lone R.mir)) null_ptr))) (λ b o at.
    let p : Ptr = block_ptr b o in let B : Fml = box_owns may_free R p x in
    use1 𝓛 (given (Testable p) (‵ B)) (fact_use 𝓤 (Testable p) (via 𝓤 _ (snd∗ 𝓤 (sem 𝓛 (points_to R p x)) (sem 𝓛 (may_free (bare (lone R.mir)) p))) (dealloc_token-Testable 𝓛 a (bare (lone R.mir)) p)) (guard_i 𝓤 (Testable p) (sem 𝓛 B))) $ learn ! (λ t.
    suffices ! (Run (one_field (vptr b o) ∷ h.0 ∷ [])) (start p at ws) $
    enter ! 𝓣.C 𝓣.Λ fn (one_field (vptr b o) ∷ h.0 ∷ []) Post $ alloc_all ! (λ l. pass_all ! refl ((tt, (tt, tt)), (h.2, tt)) $
    sets ! (of_opd ! (get_in ! (fld ! refl (stop !)) (sub ! 0 refl (whole !)))) refl (tt, tt) $
    sets ! (bin ! (get ! refl) (lit ! tt) (tests_null p t)) refl (tt, tt) $
    first ! $ branches ! (get ! refl) (λ wrong. absurd wrong)
    (λ _. skips ! $ exec ! 𝓣.C 𝓣.Λ (env code.Mir.locals l) code.Mir.t-4 (at_ret _ Post) $
    let w : Val = word h.0 b o in let made = word_is_typed R Z LZ ghosts h.0 b o h.2 in let y : L.Denot = record { alloc = a; at = p; value = x } in
    let v : Val = live 1 (vcons w vnil) in let good : Good (layout Out) v = (and_tt _ made.0, (record { fits = lit< tt }, (made.1, tt))) in
    sets ! (of_opd ! (get ! refl)) refl (tt, tt) $
    sets ! (agg ! (and_then ! (get ! refl) (and_then ! (get ! refl) (no_more !)))) refl made $
    sets ! (agg ! (and_then ! (lit ! tt) (and_then ! (get ! refl) (no_more !)))) refl good $
    move ! (0 ∷ 1 ∷ []) $ closed R Z LZ ghosts ! h.0 b o a x $
    use1 𝓛 (‵ (Out.own_val (Some y) (v ∷ []))) (Some-of 𝓛 L y w) $
    use0 𝓛 (raw (fact 𝓤 (d.value ≡ Some x))) (fact_i 𝓤 (d.value ≡ Some x) (emp 𝓤) e) $ nothing ! $ nothing ! $ fjoin ! $ nothing ! $ fjoin ! $
    returns ! (look_at ! 0 refl) $ free_all ! refl $ keep ! (3 ∷ 0 ∷ 2 ∷ 1 ∷ []) $ by ! (leaves 𝓛 En hs c z v (Some y) (tt, (tt, tt)) (tt, (tt, tt))))))) in
    let each : (x : Option R.Denot) → d.value ≡ x → z.0.4.0 ≡ one_field (ptr_val d.at) ∷ [] → ent 𝓤 (Γ₀ x) (Run (z.0.4.0 ++ (z.0.4.1.0 ++ []))) =
    λ x. elim x as (λ x. d.value ≡ x → z.0.4.0 ≡ one_field (ptr_val d.at) ∷ [] → ent 𝓤 (Γ₀ x) (Run (z.0.4.0 ++ (z.0.4.1.0 ++ [])))) [ None ↦ empty | Some y ↦ whole_one y ] in
    qed 𝓛 ((toks ⊛ ‵ (owns (types_at En.signature.params κs) z.0.3 z.0.4)) ∷ raw ((c κs z.0.3).requires z.1) ∷ []) ∵ split ! $ move ! (1 ∷ []) $ fsplit3 ! $
    rewrite ! 1 (λ (us : List Val). ‵ (Z.own_val a us)) h.1 refl $
    handle_out ! d z.0.4.0 (λ ws.
    -- [what is held; the allocator; nothing; the tokens; the requires]
    keep ! (0 ∷ 1 ∷ 3 ∷ []) $ by ! (each d.value refl ws)))
