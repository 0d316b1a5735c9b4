-- The text that a logger writes.
use Rattle.std.specs.Prelude.{◌≡◌, ◌⊎◌, ◌++◌, ℕ, List, Option, Result, Ok, Err, drop}
use Rattle.std.specs.List.{flat_map}
use Rattle.std.specs.Io.KnownBytes.{Appends, Keeps}
use Rattle.pc_io.specs.Counted.{HasRisen}
use Rattle.pc_io.specs.Tallies.{Puts}
use Rattle.pc_types.specs.declared.Entry.{Entry}
use Rattle.pc_types.specs.declared.refusal.Refusal.{Refusal}
use Rattle.pc_types.specs.declared.refusal.Refusal.TheVariants.{OutOfMemory, Device}
use Rattle.pc_io.specs.declared.tally.Tally.{Tally}
use Rattle.pc_log.specs.Texts.{entry_text}

-- All bytes that were written before are flushed; or the device failed.
abbrev pub Flushes : {T : Type 0} → (T → Option (List ℕ)) → Tally T → Tally T → Result (Unit {0}) Refusal → Type 0
Flushes contents old new (Ok u) = Keeps (contents old.inner) (contents new.inner) × (new.failures ≡ old.failures)
Flushes contents old new (Err e) = (e ≡ Device) × HasRisen old.failures new.failures × Keeps (contents old.inner) (contents new.inner)

-- all of the text went out, and then a flush failed
abbrev pub FailsBehind : {T : Type 0} → (T → Option (List ℕ)) → Tally T → Tally T → Refusal → List ℕ → Type 0
FailsBehind contents old new e text = (e ≡ Device) × HasRisen old.failures new.failures × Appends (contents old.inner) (contents new.inner) text

-- All of the text went out, on Ok and after a failed allocation; or the device failed, and then a beginning of the text went out,
-- but not all of it, or all of it, and a flush failed.
abbrev pub LogGoesOut : {T X : Type 0} → (T → Option (List ℕ)) → Tally T → Tally T → Result X Refusal → List ℕ → Type 0
LogGoesOut contents old new (Ok x) text = Puts contents old new (Ok tt) text
LogGoesOut contents old new (Err e) text = ((e ≡ OutOfMemory) × Puts contents old new (Ok tt) text) ⊎ (Puts contents old new (Err e) text ⊎ FailsBehind contents old new e text)

-- more entries were handed out, and so was their text written
abbrev pub LogsMore : {T X : Type 0} → (T → Option (List ℕ)) → Tally T → Tally T → Result X Refusal → List Entry → List Entry → Type 0
LogsMore contents old new result before after =
    (more : List Entry) × (after ≡ before ++ more) × LogGoesOut contents old new result (flat_map entry_text more)

-- the text of the entries after the first ones of this number
abbrev pub rest_text : ℕ → List Entry → List ℕ
rest_text count log = flat_map entry_text (drop count log)
