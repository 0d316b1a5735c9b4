-- The requirements of a legal effect on the history before it, and the replies without effect.
use Rattle.std.specs.Prelude.{◌≡◌, ℕ, ◌+◌, ⊤, true, List, [], ◌∷◌, Option, IfSome, Bool, false}
use Rattle.pc_types.specs.declared.Phase.{Phase}
use Rattle.pc_types.specs.declared.Phase.TheVariants.{Rest, Prepare, Resolve, Capture, Complete}
use Rattle.pc_types.specs.declared.Event.{Event}
use Rattle.pc_types.specs.declared.Reply.{Reply}
use Rattle.pc_model.specs.History.{History, Effect, effect_of, phase_of, point_of}
use Rattle.pc_model.specs.History.Effect.{Moves, Takes, Shelves, Commits, Adds, Nothing}
use Rattle.pc_model.specs.Replies.{Setting, closed_set}
use Rattle.pc_model.specs.Log.{is_resolve}
use Rattle.std.specs.List.{list_any}
use Rattle.pc_model.specs.History.{is_open, writes_of}
use Rattle.pc_types.specs.Changes.{can_add}
use Rattle.pc_model.specs.Database.{written}
use Rattle.pc_model.specs.Files.{numbers_to}

-- some transaction is active
abbrev pub some_active : Setting → History → Bool
some_active st history = list_any (λ s. is_open s history) (numbers_to st.sessions)

-- a legal change of the phase: the phase before, and the point
abbrev pub FitsMove : History → Phase → ℕ → Type 0
FitsMove h Rest n = (phase_of h ≡ Complete) × (n ≡ point_of h)
FitsMove h Prepare n = (phase_of h ≡ Rest) × (n ≡ point_of h + 1)
FitsMove h Resolve n = (phase_of h ≡ Prepare) × (n ≡ point_of h)
FitsMove h Capture n = (phase_of h ≡ Resolve) × (n ≡ point_of h)
FitsMove h Complete n = ⊥

-- a legal effect: a change of the phase, a Take of the first key left, a part once none is left, a commit of an active
-- transaction, an add that can be kept as one change with what was written of its key
abbrev pub Fits : Setting → History → Effect → Type 0
Fits st h (Moves phase n) = FitsMove h phase n
Fits st h (Takes key content) = (phase_of h ≡ Capture) × (keys : List (List ℕ)) × (closed_set h ≡ key ∷ keys)
Fits st h (Shelves n) = (phase_of h ≡ Capture) × (n ≡ point_of h) × (closed_set h ≡ [])
Fits st h (Commits s) = some_active st h ≡ true
Fits st h (Adds s key delta sum) = can_add (written (writes_of s h) key) delta ≡ true
Fits st h other = ⊤

-- a reply that has no effect, whatever was asked
abbrev pub IsIdle : Reply → Type 0
IsIdle reply = (event : Event) → effect_of event reply ≡ Nothing

abbrev pub IsIdleIfAny : Option Reply → Type 0
IsIdleIfAny o = IfSome o IsIdle

-- whether an effect may change the closed set: a Take, and a point's token
abbrev pub changes_closed : Effect → Bool
changes_closed (Takes key content) = true
changes_closed (Moves phase n) = is_resolve phase
changes_closed other = false
