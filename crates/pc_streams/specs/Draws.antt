-- The results of drawing from the front of a text whose bytes may be known.
use Rattle.std.specs.Prelude.{◌≡◌, ◌≢◌, ℕ, List, Option, Some, None, Result, Ok, Err, ⊤}
use Rattle.pc_io.specs.Counted.{HasRisen}
use Rattle.pc_io.specs.Tallies.{failures_of}
use Rattle.pc_types.specs.declared.Refusal.{Refusal}
use Rattle.pc_types.specs.declared.Refusal.TheVariants.{OutOfMemory, Device}
use Rattle.pc_io.specs.declared.tally.Tally.{Tally}

-- A field was read from the front of known bytes, as it is read from bytes in memory. A refusal uses no byte: it is the fault of
-- these bytes, or memory or the device failed.
abbrev pub DrawsKnown : {X Y : Type 0} → (X → Y) → List ℕ → Option (List ℕ) → Result X Refusal → (List ℕ → Result (Y × List ℕ) Refusal) → Type 0
DrawsKnown view xs None result read = ⊥
DrawsKnown view xs (Some ys) (Ok x) read = read xs ≡ Ok (view x, ys)
DrawsKnown view xs (Some ys) (Err e) read = (ys ≡ xs) × (e ≢ OutOfMemory → e ≢ Device → read xs ≡ Err e)

-- the same if they may not be known
abbrev pub Draws : {X Y : Type 0} → (X → Y) → Option (List ℕ) → Option (List ℕ) → Result X Refusal → (List ℕ → Result (Y × List ℕ) Refusal) → Type 0
Draws view None new result read = ⊤
Draws view (Some xs) new result read = DrawsKnown view xs new result read

-- failures are counted: Device is returned if the count increased, and otherwise the count stays
abbrev pub CountsFailures : {X T : Type 0} → Tally T → Tally T → Result X Refusal → Type 0
CountsFailures old new (Ok x) = failures_of new ≡ failures_of old
CountsFailures old new (Err Device) = HasRisen (failures_of old) (failures_of new)
CountsFailures old new (Err e) = failures_of new ≡ failures_of old
