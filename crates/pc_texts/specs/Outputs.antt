-- The fate of a command's output.
use Rattle.std.specs.Prelude.{◌≡◌, ◌⊎◌, Err}
use Rattle.std.specs.declared.result.Result.{Result}
use Rattle.pc_io.specs.Counted.{HasRisen}
use Rattle.pc_io.specs.Tallies.{failures_of}
use Rattle.pc_types.specs.declared.refusal.Refusal.{Refusal}
use Rattle.pc_types.specs.declared.refusal.Refusal.TheVariants.{Device}
use Rattle.pc_io.specs.declared.tally.Tally.{Tally}

-- Not all of the text went out, for this reason: it was refused, whatever became of the flush after it; or the device failed at
-- the flush, which was counted.
abbrev pub IsUnprinted : {A T : Type 0} → Result A Refusal → Tally T → Tally T → Refusal → Type 0
IsUnprinted put old new why = ((put ≡ Err why) × ((failures_of new ≡ failures_of old) ⊎ HasRisen (failures_of old) (failures_of new)))
    ⊎ ((why ≡ Device) × HasRisen (failures_of old) (failures_of new))
