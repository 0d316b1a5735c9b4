-- The events between the lines of a served store.
use Rattle.std.specs.Prelude.{◌≡◌, ◌==◌, ◌||◌, ◌⊎◌, ⊤, Bool, true, false, nat_lt, ◌∷◌, Option, Some, None, Result, Ok, Err, if◌then◌else◌}
use Rattle.pc_types.specs.declared.Event.{Event}
use Rattle.pc_types.specs.declared.Event.TheVariants as asked
use Rattle.pc_types.specs.declared.Refusal.{Refusal}
use Rattle.pc_types.specs.declared.Reply.{Reply}
use Rattle.pc_types.specs.declared.Reply.TheVariants as told
use Rattle.pc_types.specs.declared.Phase.{Phase}
use Rattle.pc_types.specs.declared.Phase.TheVariants.{Rest, Prepare, Resolve, Capture, Complete}
use Rattle.pc_model.specs.History.{History, phase_of}
use Rattle.pc_model.specs.Replies.{Setting, IsLegal}
use Rattle.pc_serving.specs.declared.pace.Pace.{Pace}
use Rattle.pc_serving.specs.declared.pace.Turned.{Turned}
use Rattle.pc_serving.specs.declared.pace.Turned.TheVariants as turned

-- the checkpointer asks it
abbrev pub is_checkpoint : Event → Bool
is_checkpoint asked.StartPoint = true
is_checkpoint asked.Seal = true
is_checkpoint asked.OpenCapture = true
is_checkpoint asked.Take = true
is_checkpoint asked.Done = true
is_checkpoint asked.Rest = true
is_checkpoint other = false

-- A file is reported if and only if the reply put it on the shelf; and a refusal is that of the reply.
abbrev pub IsShelvedAs : Reply → Result Turned Refusal → Type 0
IsShelvedAs (told.PartDone point file entries) result = result ≡ Ok (turned.Shelved file)
IsShelvedAs (told.Refused why) result = result ≡ Err why
IsShelvedAs other (Ok (turned.Shelved file)) = ⊥
IsShelvedAs other (Ok t) = ⊤
IsShelvedAs other (Err why) = ⊥

-- The event of a point's cycle that is due in the phase, if one is: at rest a point begins once there were that many commits, and with 0
-- none does; in capture keys are taken, until none is left.
abbrev pub due_in : Pace → Phase → Option Event
due_in pace Rest = if (pace.every == 0) || nat_lt pace.commits pace.every then None else Some asked.StartPoint
due_in pace Prepare = Some asked.Seal
due_in pace Resolve = Some asked.OpenCapture
due_in pace Capture = if pace.has_left then Some asked.Take else Some asked.Done
due_in pace Complete = Some asked.Rest

-- what is due after the reply: commits are counted from where a point begins, and keys are left until the reply says that none is
abbrev pub pace_after_reply : Pace → Reply → Pace
pace_after_reply pace told.NoneLeft = record pace { has_left = false }
pace_after_reply pace (told.Phase Prepare point) = record pace { commits = 0; has_left = true }
pace_after_reply pace other = pace

-- The checkpointer had its turn: nothing was due, and nothing was asked; or it asked the event that was, which had a legal reply, and is
-- told of it.
abbrev pub IsTurn : Setting → Pace → History → Pace → History → Result Turned Refusal → Type 0
IsTurn st old before new after result = ((due_in old (phase_of before) ≡ None) × (after ≡ before) × (new ≡ old) × (result ≡ Ok turned.Nothing))
    ⊎ ((event : Event) × (reply : Reply) × (due_in old (phase_of before) ≡ Some event) × IsLegal st before event reply × (after ≡ record { event = event; reply = reply } ∷ before) × (new ≡ pace_after_reply old reply) × IsShelvedAs reply result)
