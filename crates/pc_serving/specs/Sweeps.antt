-- The lines, after an event, to the sessions that wait.
use Rattle.std.specs.Prelude.{◌≡◌, ◌==◌, ◌&&◌, not, ℕ, zero, suc, Bool, List, [], ◌++◌, Option, Result, Ok, Err, if◌then◌else◌}
use Rattle.pc_io.specs.Counted.{HasRisen}
use Rattle.pc_io.specs.Tallies.{Puts}
use Rattle.pc_types.specs.declared.refusal.Refusal.{Refusal}
use Rattle.pc_types.specs.declared.refusal.Refusal.TheVariants.{Device}
use Rattle.pc_io.specs.declared.tally.Tally.{Tally}
use Rattle.pc_transactions.specs.Sessions.{waits_in}
use Rattle.pc_engine.specs.Store.{Store, active_of}
use Rattle.pc_serving.specs.Serving.{granted_line}

-- by the store a request of the session waits
abbrev pub waits_now : Store → ℕ → Bool
waits_now world s = waits_in world.kept.rows (active_of world s)

-- the line of a session that was waiting, and waits no more, unless it is the one that asks
abbrev pub swept_line : (ℕ → Bool) → (ℕ → Bool) → ℕ → ℕ → List ℕ
swept_line waits was own s = if was s && not (waits s) && not (s == own) then granted_line s else []

-- those of the sessions up to this number
abbrev pub swept_to : (ℕ → Bool) → (ℕ → Bool) → ℕ → ℕ → List ℕ
swept_to waits was own zero = []
swept_to waits was own (suc n) = swept_to waits was own n ++ swept_line waits was own (suc n)

-- All of the text went out, and nothing failed; or the device failed, which was counted.
abbrev pub IsTextSent : {T : Type 0} → (T → Option (List ℕ)) → Tally T → Tally T → Result (Unit {0}) Refusal → List ℕ → Type 0
IsTextSent contents old new (Ok u) text = Puts contents old new (Ok tt) text
IsTextSent contents old new (Err e) text = (e ≡ Device) × HasRisen old.failures new.failures
