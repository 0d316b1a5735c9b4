-- What is due if a change is held back, and if it isn't.
use Rattle.std.proofs.Common.{◌≡◌, ℕ, ◌+◌, ◌≤◌, ◌==◌, List, [], ◌∷◌, ◌++◌, Option, Some, None, refl, ap, sym, ◌∙◌, Bool, true, false, not, inl, inr}
use Rattle.std.specs.Prelude.{option_map, if◌then◌else◌, ◌⊎◌}
use Rattle.pc_types.specs.declared.Phase.{Phase}
use Rattle.pc_types.specs.declared.Class.TheVariants.{Before, During, After}
use Rattle.pc_types.specs.declared.Phase.TheVariants as phase
use Rattle.pc_types.specs.declared.Reply.{Reply}
use Rattle.pc_types.specs.declared.Refusal.{Refusal}
use Rattle.pc_types.specs.declared.Refusal.TheVariants as why
use Rattle.pc_model.specs.Replies.{first_refusal, or_else}
use Rattle.pc_types.specs.Phases.{same_phase}
use Rattle.pc_phase.specs.declared.change.Change.{Change}
use Rattle.pc_phase.specs.declared.change.Change.TheVariants as change
use Rattle.pc_phase.specs.declared.change.Held.{Held}
use Rattle.pc_phase.specs.declared.change.Held.TheVariants.{WrongPhase, PointsFull}
use Rattle.pc_phase.specs.Phases.{Phases, advanced, held_back, to_of, point_after}
use Rattle.pc_phase.specs.Agreement.{reply_of}
use Rattle.pc_types.specs.declared.Entry.{Entry}
use Rattle.pc_types.specs.declared.Entry.TheVariants.{Token}
use Rattle.pc_model.specs.Files.{BaseFile, File}
use Rattle.pc_transactions.specs.Ongoing.{Ongoing, after_phase_change}
use Rattle.pc_engine.specs.Store.{Store}
use Rattle.pc_types.specs.declared.limits.TheConstants.{MOST_POINTS}
use Rattle.pc_types.specs.declared.Reply.TheVariants as told
use Rattle.pc_engine.specs.Steps.{Changes, LeavesShelf, after_moving, after_sealing, done_due, is_log_full, move_due, start_causes}
use Rattle.pc_transactions.proofs.Together.{is_this}
use Rattle.pc_transactions.specs.Counts.{AreCounted}
use Rattle.pc_phase.proofs.PhaseLaws.{count_agrees}

-- what is due if a change is held back, and if nothing holds it back
held_due : (due later : Option Reply) (h : Option Held) (held : Held) → due ≡ or_else (option_map reply_of h) later → h ≡ Some held → due ≡ Some (reply_of held)
held_due due later h held is some = is ∙ ap (λ h. or_else (option_map reply_of h) later) some

free_due : (due later : Option Reply) (h : Option Held) → due ≡ or_else (option_map reply_of h) later → h ≡ None → due ≡ later
free_due due later h is none = is ∙ ap (λ h. or_else (option_map reply_of h) later) none

-- in capture a point was begun
pub begun_outside_rest : (now : Phase) (point : ℕ) → same_phase now phase.Capture ≡ true → (same_phase now phase.Rest ≡ true) ⊎ (1 ≤ point) → 1 ≤ point
begun_outside_rest now point capture (inr has) = has
begun_outside_rest now point capture (inl rest) = absurd (let no : true ≡ false = sym rest ∙ ap (λ p. same_phase p phase.Rest) (is_this now phase.Capture capture) in cc)

-- what is answered to each change if it isn't made
abbrev pub due_of : Change → Store → Option Reply
due_of change.StartPoint w = first_refusal (start_causes w)
due_of change.Seal w = move_due phase.Prepare Before w
due_of change.OpenCapture w = move_due phase.Resolve During w
due_of change.Done w = done_due w
due_of change.Rest w = move_due phase.Complete After w

-- the world once the change is made
abbrev pub after_change : Change → Store → Store
after_change change.StartPoint w = after_moving phase.Prepare (w.cycle.point + 1) w
after_change change.Seal w = after_sealing (after_moving phase.Resolve w.cycle.point w)
after_change change.OpenCapture w = after_moving phase.Capture w.cycle.point w
after_change change.Done w = w
after_change change.Rest w = after_moving phase.Rest w.cycle.point w

-- if the world's phase and point are these, and its sessions are counted
module _ (w : Store) (phases : Phases) (left : ℕ) (at_phase : w.cycle.phase ≡ phases.phase) (at_point : w.cycle.point ≡ phases.point) (counted : AreCounted phases w.sessions) where
  abbrev full : List (Bool × Refusal)
  full = (is_log_full w, why.LogFull) ∷ []

  start_due : (rest last : Bool) → same_phase phases.phase phase.Rest ≡ rest → (phases.point == MOST_POINTS) ≡ last → first_refusal ((not rest, why.WrongPhase) ∷ (last, why.PointsFull) ∷ full) ≡ or_else (option_map reply_of (if rest then (if last then Some PointsFull else None) else Some WrongPhase)) (first_refusal full)
  start_due true true a b = refl
  start_due true false a b = refl
  start_due false last a b = refl

  change_due : (c : Change) → LeavesShelf c → due_of c w ≡ or_else (option_map reply_of (held_back phases c left)) (first_refusal full)
  change_due change.StartPoint it = rw (at_phase, at_point) (start_due (same_phase phases.phase phase.Rest) (phases.point == MOST_POINTS) refl refl)
  change_due change.Seal it = rw (at_phase, ← (counted Before)) (count_agrees (same_phase phases.phase phase.Prepare) phases.before (first_refusal full))
  change_due change.OpenCapture it = rw (at_phase, ← (counted During)) (count_agrees (same_phase phases.phase phase.Resolve) phases.during (first_refusal full))
  change_due change.Rest it = rw (at_phase, ← (counted After)) (count_agrees (same_phase phases.phase phase.Complete) phases.after (first_refusal full))
  change_due change.Done it = absurd it

  -- what is due is answered, and changes nothing
  owed : (c : Change) (due : Reply) → LeavesShelf c → due_of c w ≡ Some due → Changes c w due w
  owed change.StartPoint due it is = rw is (refl, refl)
  owed change.Seal due it is = rw is (refl, refl)
  owed change.OpenCapture due it is = rw is (refl, refl)
  owed change.Rest due it is = rw is (refl, refl)
  owed change.Done due it is = absurd it

  -- a change that is held back
  pub change_held : (c : Change) (held : Held) → LeavesShelf c → held_back phases c left ≡ Some held → Changes c w (reply_of held) w
  change_held c held it some = owed c (reply_of held) it (held_due (due_of c w) (first_refusal full) (held_back phases c left) held (change_due c it) some)

  -- for which the log has no place
  pub change_full : (c : Change) → LeavesShelf c → held_back phases c left ≡ None → is_log_full w ≡ true → Changes c w (told.Refused why.LogFull) w
  change_full c it none full_now = owed c (told.Refused why.LogFull) it (free_due (due_of c w) (first_refusal full) (held_back phases c left) (change_due c it) none ∙ ap (λ b. first_refusal ((b, why.LogFull) ∷ [])) full_now)

  -- nothing is due
  pub nothing_due : (c : Change) → LeavesShelf c → held_back phases c left ≡ None → is_log_full w ≡ false → due_of c w ≡ None
  nothing_due c it none room = free_due (due_of c w) (first_refusal full) (held_back phases c left) (change_due c it) none ∙ ap (λ b. first_refusal ((b, why.LogFull) ∷ [])) room

  -- for which there is no memory
  pub change_unmade : (c : Change) → LeavesShelf c → held_back phases c left ≡ None → is_log_full w ≡ false → Changes c w (told.Refused why.OutOfMemory) w
  change_unmade c it none room = by_change c it (nothing_due c it none room)
    where
      by_change : (c : Change) → LeavesShelf c → due_of c w ≡ None → Changes c w (told.Refused why.OutOfMemory) w
      by_change change.StartPoint it is = rw is (inr (refl, refl))
      by_change change.Seal it is = rw is (inr (refl, refl))
      by_change change.OpenCapture it is = rw is (inr (refl, refl))
      by_change change.Rest it is = rw is (inr (refl, refl))
      by_change change.Done it is = absurd it

  -- the phase has changed, and its token is logged; at the seal the sets were turned, and nothing was taken yet
  pub change_made : (c : Change) (now : Store) → LeavesShelf c → held_back phases c left ≡ None → is_log_full w ≡ false → now ≡ after_change c w → Changes c w (told.Phase (to_of c) (point_after c phases.point)) now
  change_made c now it none room is = by_change c it (nothing_due c it none room) is
    where
      by_change : (c : Change) → LeavesShelf c → due_of c w ≡ None → now ≡ after_change c w → Changes c w (told.Phase (to_of c) (point_after c phases.point)) now
      by_change change.StartPoint it due is = rw due (inl (ap (λ n. told.Phase phase.Prepare (n + 1)) (sym at_point), is))
      by_change change.Seal it due is = rw due (inl (ap (told.Phase phase.Resolve) (sym at_point), is))
      by_change change.OpenCapture it due is = rw due (inl (ap (told.Phase phase.Capture) (sym at_point), is))
      by_change change.Rest it due is = rw due (inl (ap (told.Phase phase.Rest) (sym at_point), is))
      by_change change.Done it due is = absurd it

-- what a world of these parts is seen as
abbrev pub seen_world : BaseFile → List File → Ongoing → List Entry → List (List ℕ × Option (List ℕ)) → Store
seen_world base shelf o log taken = record {
  base = base;
  sessions = o.sessions;
  kept = o.kept;
  log = log;
  begun = o.begun;
  cycle = record { phase = o.phases.phase; point = o.phases.point; open_set = o.open_set; closed_set = o.closed_set; taken = taken };
  shelf = shelf;
}

-- the phases once a change is made
pub changed_phases : (c : Change) (o : Ongoing) → (after_phase_change c o).phases ≡ advanced o.phases c
changed_phases change.StartPoint o = refl
changed_phases change.Seal o = refl
changed_phases change.OpenCapture o = refl
changed_phases change.Done o = refl
changed_phases change.Rest o = refl

-- the world once a change is made, and its token is logged
pub changed_view : (base : BaseFile) (shelf : List File) (o : Ongoing) (log now : List Entry) (taken gathered : List (List ℕ × Option (List ℕ))) (c : Change) → LeavesShelf c → (c ≡ change.Seal → gathered ≡ []) → ((c ≡ change.Seal → ⊥) → gathered ≡ taken) → now ≡ log ++ Token (to_of c) (point_after c o.phases.point) ∷ [] →
    seen_world base shelf (after_phase_change c o) now gathered ≡ after_change c (seen_world base shelf o log taken)
changed_view base shelf o log now taken gathered change.StartPoint it sealed other is = rw (is, other (λ e. let no : change.StartPoint ≡ change.Seal = e in cc)) refl
changed_view base shelf o log now taken gathered change.Seal it sealed other is = rw (is, sealed refl) refl
changed_view base shelf o log now taken gathered change.OpenCapture it sealed other is = rw (is, other (λ e. let no : change.OpenCapture ≡ change.Seal = e in cc)) refl
changed_view base shelf o log now taken gathered change.Rest it sealed other is = rw (is, other (λ e. let no : change.Rest ≡ change.Seal = e in cc)) refl
changed_view base shelf o log now taken gathered change.Done it sealed other is = absurd it
