-- What setting a count leaves of the phases, and the reply to a wait of that many.
use Rattle.std.proofs.Common.{◌≡◌, ℕ, ◌==◌, not, Bool, true, false, [], ◌∷◌, Option, Some, None, refl}
use Rattle.std.specs.Prelude.{option_map, if◌then◌else◌}
use Rattle.pc_types.specs.declared.Class.{Class}
use Rattle.pc_types.specs.declared.Class.TheVariants.{Before, During, After}
use Rattle.pc_types.specs.declared.Reply.{Reply}
use Rattle.pc_types.specs.declared.Reply.TheVariants as told
use Rattle.pc_types.specs.declared.Refusal.TheVariants as why
use Rattle.pc_model.specs.Replies.{first_refusal, or_else, not_yet}
use Rattle.pc_phase.specs.declared.change.Held.TheVariants.{WrongPhase, NotYet}
use Rattle.pc_phase.specs.Phases.{Phases, with_active, some_left}
use Rattle.pc_phase.specs.Agreement.{reply_of}

-- a count that is set leaves the phase and the point
pub phase_stays : (phases : Phases) (class : Class) (n : ℕ) → (with_active phases class n).phase ≡ phases.phase
phase_stays phases Before n = refl
phase_stays phases During n = refl
phase_stays phases After n = refl

pub point_stays : (phases : Phases) (class : Class) (n : ℕ) → (with_active phases class n).point ≡ phases.point
point_stays phases Before n = refl
point_stays phases During n = refl
point_stays phases After n = refl

-- none or some hold it back
some_agree : (none : Bool) (count : ℕ) (later : Option Reply) →
    or_else (if none then None else Some (told.NotYet count)) later ≡ or_else (option_map reply_of (if none then None else Some (NotYet count))) later
some_agree true count later = refl
some_agree false count later = refl

-- that many hold it back
pub count_agrees : (is : Bool) (count : ℕ) (later : Option Reply) →
    or_else (first_refusal ((not is, why.WrongPhase) ∷ [])) (or_else (not_yet count) later) ≡ or_else (option_map reply_of (if is then some_left count else Some WrongPhase)) later
count_agrees false count later = refl
count_agrees true count later = some_agree (count == 0) count later
