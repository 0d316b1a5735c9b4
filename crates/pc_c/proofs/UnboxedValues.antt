-- What an `Unboxed` is to the machine: a struct of the allocator and of a pointer. Assumes `Logic`.
use Rattle.std.proofs.Common.{◌≡◌, ℕ, List, [], ◌∷◌, ◌++◌, refl, subst}
use mathlib.Core.Bool.{true, ◌&&◌}
use lib.Dec.{T}
use seplogic.Ra.Ura.{Ura}
use mir.Syntax.{impl, tnil, dnil}
use mir.Raw.{raw as bare}
use mir.Val.{Val, vptr, vstruct, vcons, vnil, of_list, has_ty, WT}
use base.Logic.{never, fst∗}
use types.Logic.{Logic, sem}
use types.Kit.{Item, Goal, Seq, Step, step, ‵, ◌$◌, move, drop, fsplit, fjoin, fpick, fpack, feq_i, feq_l}
use denote.RattleType.{RattleType, Valss}
use denote.Builtin.{RawPtr}
use denote.Memory.{lone}
use denote.RawPtr.{Ptr, block_ptr, null_ptr, ptr_val, in_a_block}
use denote.Steps.{nothing}
use denote.Param.{layout}
use denote.Param.Laws.{Laws}
use denote.Struct.Struct.{within}
use denote.Struct.Owning.{shape}
use Rattle.core.specs.declared.alloc.Allocator.{Ghosts}
use Rattle.core.proofs.alloc.Calls.{Al, handle_tells}
use Rattle.core.proofs.cell.Inside.{Good}
use Rattle.std_alloc.specs.Box.Ownership.{box_owns}
use Rattle.std_alloc.proofs.ResultValues.{and_tt}
use Rattle.pc_c.specs.contracts.unboxed.Unboxed as unboxed

-- the machine value of an allocator's value and a place in a block
abbrev pub word : Val → ℕ → ℕ → Val
word h b o = vstruct (vcons h (vcons (vptr b o) vnil))

module _ (R Z : RattleType) (L : Laws Z) (g : Ghosts Z.Denot) where
  abbrev pub Unboxed : RattleType
  Unboxed = unboxed.the_row R Z g

  abbrev heap : Al
  heap = record { row = Z; laws = L; g = g; d = impl [] tnil dnil; drops = impl [] tnil dnil }

  -- what an unboxed value keeps at its place
  abbrev pub kept : Z.Denot → Ptr → R.Denot → base.Fml.Fml
  kept a p x = box_owns (g.dealloc_token a) R p x

  pub word_is_typed : (h : Val) (b o : ℕ) → Good (layout Z) h → T (has_ty (layout Z) h && true) × WT (word h b o)
  word_is_typed h b o fits = (and_tt (has_ty (layout Z) h) fits.0, (fits.1, (tt, tt)))

  module _ {M : Type 1} {𝓤 : Ura M} {𝓛 : Logic 𝓤} {K : Type 0} {Γ : List (Item 𝓤)} {G : Goal 𝓤 𝓛.H} where
    -- it is taken apart: [what it keeps; the allocator]
    pub opened : K → (d : Unboxed.Denot) (vs : List Val)
        → ((h : Val) (b o : ℕ) → d.at ≡ block_ptr b o → vs ≡ word h b o ∷ [] → Good (layout Z) h
        → Seq K 𝓛 (‵ (kept d.alloc (block_ptr b o) d.value) ∷ ‵ (Z.own_val d.alloc (h ∷ [])) ∷ Γ) G)
        → Seq K 𝓛 (‵ (Unboxed.own_val d vs) ∷ Γ) G
    opened t d vs goes_on =
        fsplit t $ fpick t (λ vss. fsplit t $ feq_l t (λ all. fsplit t $
        handle_tells heap t d.alloc vss.0 (λ h first fits. move t (1 ∷ []) $ fsplit t $ feq_l t (λ second. drop t $ move t (1 ∷ []) $
        in_a_block t d.at (λ p. kept d.alloc p d.value) (fst∗ 𝓤 (never 𝓤) (sem 𝓛 (g.dealloc_token d.alloc (bare (lone R.mir)) null_ptr))) (λ b o at.
        goes_on h b o at
        (subst (λ (p : Ptr). vs ≡ vstruct (of_list (h ∷ ptr_val p ∷ [])) ∷ []) at
        (subst (λ (ps : List Val). vs ≡ vstruct (of_list (h ∷ (ps ++ []))) ∷ []) second
        (subst (λ (hs : List Val). vs ≡ vstruct (of_list (hs ++ (vss.1.0 ++ []))) ∷ []) first all))) fits)))))

    -- it is put together of [what it keeps; the allocator]
    pub closed : K → (h : Val) (b o : ℕ) (a : Z.Denot) (x : R.Denot)
        → Step K 𝓛 (‵ (Unboxed.own_val (record { alloc = a; at = block_ptr b o; value = x }) (word h b o ∷ [])) ∷ Γ) G
        (‵ (kept a (block_ptr b o) x) ∷ ‵ (Z.own_val a (h ∷ [])) ∷ Γ) G
    closed t h b o a x = step (λ s. let w : Val = word h b o in
        nothing t $ feq_i t (List Val) (vptr b o ∷ []) (vptr b o ∷ []) refl $ fjoin t $ move t (2 ∷ 0 ∷ []) $ fjoin t $
        feq_i t (List Val) (w ∷ []) (w ∷ []) refl $ fjoin t $
        fpack t (Valss (Z ∷ RawPtr ∷ [])) (within (shape (unboxed.the_type R Z g)) (a, (block_ptr b o, tt)) (w ∷ [])) (h ∷ [], (vptr b o ∷ [], tt)) $
        fjoin t $ s)
