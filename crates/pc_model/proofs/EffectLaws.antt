-- What refusals are, and that they do nothing.
use Rattle.std.proofs.Common.{◌≡◌, List, [], ◌∷◌, ◌++◌, Bool, true, false, Some, None, refl, cond}
use Rattle.std.specs.Prelude.{IfSome}
use Rattle.pc_types.specs.declared.Event.{Event}
use Rattle.pc_types.specs.declared.Reply.TheVariants as told
use Rattle.pc_types.specs.declared.Refusal.{Refusal}
use Rattle.pc_model.specs.History.{effect_of}
use Rattle.pc_model.specs.History.Effect.{Nothing}
use Rattle.pc_model.specs.Replies.{first_refusal}
use Rattle.pc_model.proofs.EffectCases.{by_event}

-- a refusal does nothing
pub refused_does_nothing : (event : Event) (w : Refusal) → effect_of event (told.Refused w) ≡ Nothing
refused_does_nothing event w = by_event (λ e. e ≡ Nothing) (told.Refused w) (λ s. refl) (λ s key. refl) (λ s key value. refl) (λ s key delta. refl) (λ s. refl) (λ s. refl) refl refl refl (λ a b. refl) event

-- what the first cause gives is a refusal
pub first_refusal_refuses : (causes : List (Bool × Refusal)) → IfSome (first_refusal causes) (λ due. (r : Refusal) × (due ≡ told.Refused r))
first_refusal_refuses [] = tt
first_refusal_refuses (c ∷ causes) = elim c.0 as (λ b. IfSome (cond b (Some (told.Refused c.1)) (first_refusal causes)) (λ due. (r : Refusal) × (due ≡ told.Refused r))) [ true ↦ (c.1, refl) | false ↦ first_refusal_refuses causes ]

-- if no cause applies, the first doesn't
pub no_first : (c : Bool × Refusal) (causes : List (Bool × Refusal)) → first_refusal (c ∷ causes) ≡ None → c.0 ≡ false
no_first c causes = elim c.0 as (λ b. cond b (Some (told.Refused c.1)) (first_refusal causes) ≡ None → b ≡ false) [ true ↦ λ e. cc | false ↦ λ e. refl ]

-- and neither do the others
pub no_other : (c : Bool × Refusal) (causes : List (Bool × Refusal)) → first_refusal (c ∷ causes) ≡ None → first_refusal causes ≡ None
no_other c causes = elim c.0 as (λ b. cond b (Some (told.Refused c.1)) (first_refusal causes) ≡ None → first_refusal causes ≡ None) [ true ↦ λ e. cc | false ↦ λ e. e ]

-- if none of two lists of causes applies, none of the second does
pub no_others : (causes more : List (Bool × Refusal)) → first_refusal (causes ++ more) ≡ None → first_refusal more ≡ None
no_others [] more e = e
no_others (c ∷ causes) more e = no_others causes more (no_other c (causes ++ more) e)

-- and none of the first
pub no_firsts : (causes more : List (Bool × Refusal)) → first_refusal (causes ++ more) ≡ None → first_refusal causes ≡ None
no_firsts [] more e = refl
no_firsts (c ∷ causes) more e = by_test c.0 refl e (no_firsts causes more)
  where
    by_test : (b : Bool) → c.0 ≡ b → cond b (Some (told.Refused c.1)) (first_refusal (causes ++ more)) ≡ None → (first_refusal (causes ++ more) ≡ None → first_refusal causes ≡ None) → cond c.0 (Some (told.Refused c.1)) (first_refusal causes) ≡ None
    by_test true is e later = cc
    by_test false is e later = rw is (later e)
