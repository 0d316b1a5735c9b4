-- Which refusal comes first, if an example would need 256 writes to show it.
use Rattle.std.proofs.Common.{◌≡◌, ℕ, List, [], ◌∷◌, ◌++◌, Bool, true, false, Option, Some, None, refl, ap, ◌∙◌}
use Rattle.std.specs.Prelude.{if◌then◌else◌}
use Rattle.pc_types.specs.declared.Event.TheVariants as asked
use Rattle.pc_types.specs.declared.Reply.{Reply}
use Rattle.pc_types.specs.declared.Reply.TheVariants as told
use Rattle.pc_types.specs.declared.Refusal.{Refusal}
use Rattle.pc_types.specs.declared.Refusal.TheVariants as why
use Rattle.pc_model.specs.History.{History}
use Rattle.pc_model.specs.Replies.{Setting, first_refusal, transaction_causes, too_many, is_full, certain}

passed_by : (b : Bool) (r : Reply) (cs rest : List (Bool × Refusal)) (ys : Option Reply) → (first_refusal cs ≡ None → first_refusal rest ≡ ys) → (if b then Some r else first_refusal cs) ≡ None → (if b then Some r else first_refusal rest) ≡ ys
passed_by true r cs rest ys later e = cc
passed_by false r cs rest ys later e = later e

-- if none of the first causes applies, the others decide
pub then_the_others : (cs ys : List (Bool × Refusal)) → first_refusal cs ≡ None → first_refusal (cs ++ ys) ≡ first_refusal ys
then_the_others [] ys none = refl
then_the_others (c ∷ cs) ys none = passed_by c.0 (told.Refused c.1) cs (cs ++ ys) (first_refusal ys) (then_the_others cs ys) none

-- a 257th key is TooManyWrites, also if the store is full
pub too_many_before_full : (st : Setting) (history : History) (s : ℕ) (key : List ℕ) → first_refusal (transaction_causes st s history) ≡ None → too_many s key history ≡ true → certain st history (asked.Del s key) ≡ Some (told.Refused why.TooManyWrites)
too_many_before_full st history s key none many =
    then_the_others (transaction_causes st s history) ((too_many s key history, why.TooManyWrites) ∷ (is_full st key history, why.Full) ∷ []) none
    ∙ ap (λ b. if b then Some (told.Refused why.TooManyWrites) else first_refusal ((is_full st key history, why.Full) ∷ [])) many
