-- Of which kind a reply is that is certain, and a legal one.
use Rattle.std.proofs.Common.{◌≡◌, ◌⊎◌, ◌==◌, not, ℕ, Bool, true, false, cond, List, [], ◌∷◌, refl, sym, subst, inl, inr}
use Rattle.std.specs.Prelude.{Option, Some, None, MatchOption, IfSome}
use Rattle.pc_types.specs.declared.Phase.{Phase}
use Rattle.pc_types.specs.declared.Class.{Class}
use Rattle.pc_types.specs.declared.Reply.{Reply}
use Rattle.pc_types.specs.declared.Reply.TheVariants as told
use Rattle.pc_types.specs.declared.Refusal.{Refusal}
use Rattle.pc_types.specs.declared.Refusal.TheVariants as why
use Rattle.pc_model.specs.History.{History}
use Rattle.pc_model.specs.Replies.{Setting, first_refusal, or_else, log_is_full, not_yet, wrong_phase, held_back_reply, active_in_class, is_in_phase}
use Rattle.pc_model.proofs.EffectLaws.{first_refusal_refuses}

module _ (Kind : Reply → Type 0) where
  -- if what is certain is of the kind, and so is a refusal, a legal reply is the answer or of the kind
  pub answer_or_kind : Kind (told.Refused why.OutOfMemory) → (o : Option Reply) → IfSome o Kind → (Answer : Type 0) (reply : Reply) → MatchOption o (Answer ⊎ (reply ≡ told.Refused why.OutOfMemory)) (λ due. reply ≡ due)
      → ((o ≡ None) × Answer) ⊎ Kind reply
  answer_or_kind out (Some due) is Answer reply same = inr (subst Kind (sym same) is)
  answer_or_kind out None is Answer reply (inl answer) = inl (refl, answer)
  answer_or_kind out None is Answer reply (inr memory) = inr (subst Kind (sym memory) out)

  pub by_either : (o p : Option Reply) → IfSome o Kind → IfSome p Kind → IfSome (or_else o p) Kind
  by_either (Some due) p is other = is
  by_either None p is other = other

  module _ (refused : (r : Refusal) → Kind (told.Refused r)) where
    -- what the first cause gives
    pub by_causes : (causes : List (Bool × Refusal)) → IfSome (first_refusal causes) Kind
    by_causes causes = by_first (first_refusal causes) (first_refusal_refuses causes)
      where
        by_first : (o : Option Reply) → IfSome o (λ due. (r : Refusal) × (due ≡ told.Refused r)) → IfSome o Kind
        by_first (Some due) is = subst Kind (sym is.1) (refused is.0)
        by_first None is = tt

    -- outside a phase, and then
    pub by_phase : (from : Phase) (h : History) (o : Option Reply) → IfSome o Kind → IfSome (or_else (wrong_phase from h) o) Kind
    by_phase from h o = by_either (wrong_phase from h) o (by_causes ((not (is_in_phase from h), why.WrongPhase) ∷ []))

    module _ (waits : (count : ℕ) → Kind (told.NotYet count)) where
      -- while some are left, and then
      pub by_count : (count : ℕ) (o : Option Reply) → IfSome o Kind → IfSome (or_else (not_yet count) o) Kind
      by_count count o = by_either (not_yet count) o (by_case (count == 0))
        where
          by_case : (b : Bool) → IfSome (cond b None (Some (told.NotYet count))) Kind
          by_case true = tt
          by_case false = waits count

      -- what holds back a change of the phase
      pub by_held : (st : Setting) (from : Phase) (class : Class) (h : History) → IfSome (held_back_reply st from class h) Kind
      by_held st from class h =
          by_phase from h (or_else (not_yet (active_in_class st class h)) (first_refusal ((log_is_full h, why.LogFull) ∷ [])))
          (by_count (active_in_class st class h) (first_refusal ((log_is_full h, why.LogFull) ∷ [])) (by_causes ((log_is_full h, why.LogFull) ∷ [])))

-- a legal reply is the answer if no cause applies, or a refusal, for events that are only refused or answered
pub answer_or_refusal : (causes : List (Bool × Refusal)) (Answer : Type 0) (reply : Reply) → MatchOption (first_refusal causes) (Answer ⊎ (reply ≡ told.Refused why.OutOfMemory)) (λ due. reply ≡ due) →
    ((first_refusal causes ≡ None) × Answer) ⊎ ((r : Refusal) × (reply ≡ told.Refused r))
answer_or_refusal causes Answer reply = answer_or_kind (λ due. (r : Refusal) × (due ≡ told.Refused r)) (why.OutOfMemory, refl) (first_refusal causes) (first_refusal_refuses causes) Answer reply
