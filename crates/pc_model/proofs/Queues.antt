-- Granted requests are in front and never conflict, and the six rules keep it so.
use Rattle.std.proofs.Common.{◌≡◌, List, [], ◌∷◌, ◌++◌, refl, sym, subst, cond, Bool, true, false}
use Rattle.std.specs.Prelude.{MatchBool}
use Rattle.std.specs.List.{list_all}
use Rattle.pc_types.specs.declared.Request.{Request}
use Rattle.pc_model.specs.Locks.{are_compatible, granted_behind}
use Rattle.pc_model.specs.Queues.{grant, AllWait, IsSoundBehind}

wait_sound : (before rs : List Request) → AllWait rs → IsSoundBehind before rs
wait_sound before [] w = tt
wait_sound before (r ∷ rs) w = rw w.0 w.1

granted_is : (r : Request) → r.granted ≡ true → grant r ≡ r
granted_is r e = λ i. record r { granted = sym e i }

-- granting from the front keeps it so
pub granted_sound : (before rs : List Request) → IsSoundBehind before rs → IsSoundBehind before (granted_behind before rs)
granted_sound before [] s = tt
granted_sound before (r ∷ rs) s = by_fit (granted_sound (before ++ grant r ∷ []) rs) (list_all (are_compatible r) before) refl
  where
    rest_sound : (g : Bool) → r.granted ≡ g → MatchBool g ((list_all (are_compatible r) before ≡ true) × IsSoundBehind (before ++ r ∷ []) rs) (AllWait rs) → IsSoundBehind (before ++ grant r ∷ []) rs
    rest_sound true e t = let P : Request → Type 0 = λ q. IsSoundBehind (before ++ q ∷ []) rs in subst P (sym (granted_is r e)) t.1
    rest_sound false e t = wait_sound (before ++ grant r ∷ []) rs t

    by_fit : (IsSoundBehind (before ++ grant r ∷ []) rs → IsSoundBehind (before ++ grant r ∷ []) (granted_behind (before ++ grant r ∷ []) rs)) →
        (f : Bool) → list_all (are_compatible r) before ≡ f → IsSoundBehind before (cond f (grant r ∷ granted_behind (before ++ grant r ∷ []) rs) (r ∷ rs))
    by_fit later true fits = (fits, later (rest_sound r.granted refl s))
    by_fit later false fits = s
