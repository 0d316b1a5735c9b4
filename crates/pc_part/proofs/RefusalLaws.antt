-- How a refusal that is due shows in a result.
use Rattle.std.proofs.Common.{◌≡◌, Bool, true, false, List, [], ◌∷◌, Option, Some, None, Result, Ok, Err, refl}
use Rattle.std.specs.Prelude.{if◌then◌else◌}
use Rattle.std.specs.Option.{option_map}
use Rattle.pc_types.specs.declared.Refusal.{Refusal}
use Rattle.pc_types.specs.declared.Refusal.TheVariants.{OutOfMemory}
use Rattle.pc_types.specs.declared.Reply.TheVariants as told
use Rattle.pc_model.specs.Replies.{first_refusal}
use Rattle.pc_part.specs.Joins.{first_cause, IsRefusedBy}

pub refused_with : {X : Type 0} (due : Option Refusal) (e : Refusal) (r : Result X Refusal) → due ≡ Some e → r ≡ Err e → IsRefusedBy due r
refused_with due e r is err = rw is err

pub lacks_memory : {X : Type 0} (due : Option Refusal) (e : Refusal) (r : Result X Refusal) → due ≡ None → r ≡ Err e → e ≡ OutOfMemory → IsRefusedBy due r
lacks_memory due e r is err want = rw (is, err) want

pub succeeds : {X : Type 0} (due : Option Refusal) (x : X) → due ≡ None → (let given : Result X Refusal = Ok x in IsRefusedBy due given)
succeeds due x is = rw is tt

-- the same as a reply: that of the first refusal whose cause applies
pub first_refusal_is : (causes : List (Bool × Refusal)) → first_refusal causes ≡ option_map told.Refused (first_cause causes)
first_refusal_is [] = refl
first_refusal_is (c ∷ causes) = by c.0 (first_refusal_is causes)
  where
    by : (t : Bool) → first_refusal causes ≡ option_map told.Refused (first_cause causes) → (if t then Some (told.Refused c.1) else first_refusal causes) ≡ option_map told.Refused (if t then Some c.1 else first_cause causes)
    by true rest = refl
    by false rest = rest
