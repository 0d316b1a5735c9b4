-- The lines of the pairs of a point's state, and those of what a choice has as its point.
use Rattle.std.specs.Prelude.{◌≡◌, ◌⊎◌, ℕ, Bool, List, Option, Some, None, Ok}
use Rattle.std.specs.Io.KnownBytes.{Appends}
use Rattle.pc_io.specs.Counted.{HasRisen}
use Rattle.pc_io.specs.Tallies.{failures_of, inner_of}
use Rattle.pc_types.specs.declared.refusal.Refusal.TheVariants.{OutOfMemory}
use Rattle.pc_io.specs.declared.tally.Tally.{Tally}
use Rattle.pc_model.specs.Database.{Database}
use Rattle.pc_restore.specs.Recoveries.{AreAllOpened, HoldsAll}
use Rattle.pc_restore.specs.declared.recovery.Folder.{Folder}
use Rattle.pc_restore.specs.declared.recovery.Lost.TheVariants as lost
use Rattle.pc_points.specs.Folders.{IsPointLost}
use Rattle.pc_points.specs.Points.{point_state}
use Rattle.pc_pairs.specs.Dumps.{SendsBeginning, Dumps, IsUndumped, dump_text}
use Rattle.pc_pairs.specs.declared.choice.Choice.{Choice}
use Rattle.pc_pairs.specs.declared.dumping.Undumped.{Undumped}
use Rattle.pc_pairs.specs.declared.dumping.Undumped.TheVariants as undumped

-- the state of the point n that the folder's files have was written: the lines of its chosen pairs; said for known bytes of the files
abbrev pub DumpsPoint : {R T : Type 0} → (R → Option (List ℕ)) → (T → Option (List ℕ)) → Folder R → ℕ → Choice → Tally T → Tally T → Type 0
DumpsPoint remaining contents folder n choice old new = (base : List ℕ) (names parts : List (List ℕ)) (log : List ℕ) → HoldsAll remaining folder base names parts log →
    (db : Database) × (point_state n base parts log ≡ Ok (Some db)) × Appends (contents (inner_of old)) (contents (inner_of new)) (dump_text choice db)

-- the same of a beginning of the lines
abbrev pub DumpsPointInPart : {R T : Type 0} → (R → Option (List ℕ)) → (T → Option (List ℕ)) → Folder R → ℕ → Choice → Tally T → Tally T → Type 0
DumpsPointInPart remaining contents folder n choice old new = (base : List ℕ) (names parts : List (List ℕ)) (log : List ℕ) → HoldsAll remaining folder base names parts log →
    (db : Database) × (point_state n base parts log ≡ Ok (Some db)) × SendsBeginning contents old new (dump_text choice db)

-- every file of the folder was opened, and they have no state of the point n
abbrev pub LacksPoint : {R : Type 0} → (R → Option (List ℕ)) → Folder R → ℕ → Type 0
LacksPoint remaining folder n = AreAllOpened folder × ((base : List ℕ) (names parts : List (List ℕ)) (log : List ℕ) → HoldsAll remaining folder base names parts log → point_state n base parts log ≡ Ok None)

-- Why not all lines of a point's state were written: the output failed, which was counted, and a beginning of them went out, or
-- memory ran out for a line of JSON, and a beginning did; or no state is returned, or the files have none, and nothing went out.
abbrev pub IsPointUndumped : {R T : Type 0} → (R → Option (List ℕ)) → (T → Option (List ℕ)) → Folder R → ℕ → Choice → Tally T → Tally T → Undumped R → Type 0
IsPointUndumped remaining contents folder n choice old new (undumped.Lost cause) =
    ((cause ≡ lost.Output) × HasRisen (failures_of old) (failures_of new) × DumpsPointInPart remaining contents folder n choice old new)
    ⊎ ((cause ≡ lost.Folder OutOfMemory) × DumpsPointInPart remaining contents folder n choice old new)
    ⊎ ((new ≡ old) × IsPointLost remaining folder n cause)
IsPointUndumped remaining contents folder n choice old new undumped.NoPoint = (new ≡ old) × LacksPoint remaining folder n

-- what a dump wrote: the state of the point, if there is one, and otherwise all that was recovered
abbrev pub DumpsAsChosen : {R T E : Type 0} → Option ℕ → (R → Option (List ℕ)) → (T → Option (List ℕ)) → (E → Option (List ℕ)) → Folder R → Choice → Bool → Tally T → Tally T → Tally E → Tally E → Type 0
DumpsAsChosen None remaining contents reported folder choice accepts_damage old new told_old told_new = Dumps remaining contents reported folder choice accepts_damage old new told_old told_new
DumpsAsChosen (Some n) remaining contents reported folder choice accepts_damage old new told_old told_new = DumpsPoint remaining contents folder n choice old new

-- why it didn't write all of that
abbrev pub IsUndumpedAsChosen : {R T E : Type 0} → Option ℕ → (R → Option (List ℕ)) → (T → Option (List ℕ)) → (E → Option (List ℕ)) → Folder R → Choice → Bool → Tally T → Tally T → Tally E → Tally E → Undumped R → Type 0
IsUndumpedAsChosen None remaining contents reported folder choice accepts_damage old new told_old told_new (undumped.Lost cause) = IsUndumped remaining contents reported folder choice accepts_damage old new told_old told_new cause
IsUndumpedAsChosen None remaining contents reported folder choice accepts_damage old new told_old told_new undumped.NoPoint = ⊥
IsUndumpedAsChosen (Some n) remaining contents reported folder choice accepts_damage old new told_old told_new cause = IsPointUndumped remaining contents folder n choice old new cause
