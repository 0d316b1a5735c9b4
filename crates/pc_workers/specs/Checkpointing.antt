-- The phases that a checkpointer has seen and the points that it has published since, and why it stops.
use Rattle.std.specs.Prelude.{◌≡◌, ◌⊎◌, ◌<◌, ⊤, IsTrue, ℕ, zero, suc, ◌+◌, List, [], ◌∷◌, ◌++◌, Option, Some, None, length}
use mathlib.Core.List.{IsPrefix}
use Rattle.pc_types.specs.declared.Event.TheVariants.{Take}
use Rattle.pc_types.specs.declared.Phase.{Phase}
use Rattle.pc_types.specs.declared.Phase.TheVariants.{Rest, Prepare, Resolve, Capture, Complete}
use Rattle.pc_types.specs.declared.Refusal.{Refusal}
use Rattle.pc_types.specs.declared.Refusal.TheVariants as refusal
use Rattle.pc_types.specs.declared.limits.TheConstants.{MOST_FILES, MOST_POINTS}
use Rattle.pc_types.specs.declared.Reply.{Reply}
use Rattle.pc_types.specs.declared.Reply.TheVariants as told
use Rattle.pc_types.specs.Phases.{next_phase, next_point}
use Rattle.pc_model.specs.Files.{shelf}
use Rattle.pc_model.specs.History.{History, phase_of, point_of}
use Rattle.pc_model.specs.Headline.{TakesPointValue}
use Rattle.pc_model.specs.Replies.{Setting, IsLegalHistory, log_is_full}
use Rattle.pc_model.specs.Calls.{IsBeginning, IsAnswered}
use Rattle.pc_board.specs.Passes.{Pass}
use Rattle.pc_latch.specs.Cycles.{next_event, phases_entered, done_among}
use Rattle.pc_workers.specs.Boards.{MakesCalls, publications}

-- the phases of the point's cycle, in their order
abbrev pub whole_cycle : ℕ → List (Phase × ℕ)
whole_cycle point = (Prepare, point) ∷ (Resolve, point) ∷ (Capture, point) ∷ (Complete, point) ∷ (Rest, point) ∷ []

-- those of the given number of cycles after the point, in order
abbrev pub whole_cycles : ℕ → ℕ → List (Phase × ℕ)
whole_cycles point zero = []
whole_cycles point (suc count) = whole_cycles point count ++ whole_cycle (point + suc count)

-- The checkpointer has seen a history that extends the one that it had seen; if that was legal, and each of its takes carried its
-- key's value at the point, so is this one, and so has each of its takes. Just these phases were entered since, each with its
-- point, and for each part that was done as they were the shelf has one more file; and the phase and the point are now these.
pub record HasReached (st : Setting) (phases : List (Phase × ℕ)) (phase : Phase) (point : ℕ) (before after : History) : Type 0 where
  pub begins : IsBeginning before after
  pub legal : IsLegalHistory st before → IsLegalHistory st after
  pub values : TakesPointValue st.base before → TakesPointValue st.base after
  pub entered : phases_entered after ≡ phases_entered before ++ phases
  pub shelved : length (shelf st.run after) ≡ length (shelf st.run before) + length (done_among phases)
  pub in_phase : phase_of after ≡ phase
  pub at_point : point_of after ≡ point

-- no phase was entered
abbrev pub HasStood : Setting → History → History → Type 0
HasStood st before after = HasReached st [] (phase_of before) (point_of before) before after

-- the next phase was
abbrev pub HasTurned : Setting → History → History → Type 0
HasTurned st before after =
    HasReached st ((next_phase (phase_of before), next_point (phase_of before) (point_of before)) ∷ []) (next_phase (phase_of before)) (next_point (phase_of before) (point_of before)) before after

-- it has gone through this many whole cycles, in order
abbrev pub HasCycled : Setting → ℕ → History → History → Type 0
HasCycled st count before after = HasReached st (whole_cycles (point_of before) count) Rest (point_of before + count) before after

-- The store may answer this refusal to the event that ends the phase, or in capture to a take: after some legal history with all
-- that the checkpointer has seen, and no other call of it.
abbrev pub IsRefusal : Setting → History → Refusal → Type 0
IsRefusal st seen why = IsAnswered st 0 seen (next_event (phase_of seen)) (told.Refused why) ⊎ ((phase_of seen ≡ Capture) × IsAnswered st 0 seen Take (told.Refused why))

-- The meaning of such a refusal, if the points up to this one are due, the checkpointer has seen the first history, and a witness
-- has seen the second: an allocation failed; the log of the witness's history has no place left; the shelf of the checkpointer's
-- has none; or there can't be this many points.
abbrev pub IsFull : Setting → History → History → ℕ → Refusal → Type 0
IsFull st seen shown last refusal.OutOfMemory = ⊤
IsFull st seen shown last refusal.LogFull = IsTrue (log_is_full shown)
IsFull st seen shown last refusal.ShelfFull = length (shelf st.run seen) ≡ MOST_FILES
IsFull st seen shown last refusal.PointsFull = MOST_POINTS < last
IsFull st seen shown last other = ⊥

-- A witness has seen a legal history that extends the one that the checkpointer had seen, and if this refusal says so, its log has
-- no place left.
pub record Shows (st : Setting) (seen : History) (why : Refusal) (shown : History) : Type 0 where
  pub legal : IsLegalHistory st shown
  pub had_seen : IsBeginning seen shown
  pub log : why ≡ refusal.LogFull → IsTrue (log_is_full shown)

-- it stopped at a refusal, and no phase was entered
abbrev pub IsHeldUp : Setting → History → History → Refusal → Type 0
IsHeldUp st before after why = HasStood st before after × IsRefusal st after why

-- Since then the pass has published the points whose parts were put on the shelf as these phases were entered, in their order,
-- and has made no other call.
abbrev pub HasPublished : List (Phase × ℕ) → Pass → Pass → Type 0
HasPublished phases before after = MakesCalls before after (publications before.number (done_among phases))

-- It stopped at a refusal: since then a beginning of the phases that were due was entered, and the parts that were put on the shelf
-- were published, and no more.
pub record HasBrokenOff (st : Setting) (due : List (Phase × ℕ)) (before after : History) (earlier later : Pass) (why : Refusal) : Type 0 where
  pub phases : List (Phase × ℕ)
  pub phase : Phase
  pub point : ℕ
  pub first : IsPrefix phases due
  pub reached : HasReached st phases phase point before after
  pub published : HasPublished phases earlier later
  pub refusal : IsRefusal st after why

-- the point of the phase that a reply names, if it names one
abbrev pub point_named : Reply → Option ℕ
point_named (told.Phase phase point) = Some point
point_named (told.PartDone point file entries) = Some point
point_named other = None
