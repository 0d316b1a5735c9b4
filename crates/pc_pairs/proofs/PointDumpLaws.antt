-- Why not all lines of a point's state were written.
use Rattle.std.proofs.Common.{◌≡◌, ◌≢◌, ◌⊎◌, inl, inr, ℕ, List, Option, sym, ◌∙◌}
use Rattle.pc_io.specs.Counted.{HasRisen}
use Rattle.pc_io.specs.Tallies.{failures_of}
use Rattle.pc_types.specs.declared.refusal.Refusal.{Refusal}
use Rattle.pc_types.specs.declared.refusal.Refusal.TheVariants.{Device, OutOfMemory}
use Rattle.pc_io.specs.declared.tally.Tally.{Tally}
use Rattle.pc_restore.specs.declared.recovery.Folder.{Folder}
use Rattle.pc_restore.specs.declared.recovery.Lost.{Lost}
use Rattle.pc_restore.specs.declared.recovery.Lost.TheVariants as lost
use Rattle.pc_pairs.specs.declared.choice.Choice.{Choice}
use Rattle.pc_pairs.specs.declared.dumping.Undumped.TheVariants as undumped
use Rattle.pc_pairs.specs.PointDumps.{DumpsPointInPart, IsPointUndumped}

-- a beginning of them was
pub point_unwritten : {R T : Type 0} (remaining : R → Option (List ℕ)) (contents : T → Option (List ℕ)) (folder : Folder R) (n : ℕ) (choice : Choice) (old new : Tally T) (why : Refusal) (cause : Lost R)
    → (why ≡ OutOfMemory → cause ≡ lost.Folder OutOfMemory) → (why ≢ OutOfMemory → cause ≡ lost.Output)
    → ((why ≡ Device) × HasRisen (failures_of old) (failures_of new)) ⊎ (why ≡ OutOfMemory) → DumpsPointInPart remaining contents folder n choice old new
    → IsPointUndumped remaining contents folder n choice old new (undumped.Lost cause)
point_unwritten remaining contents folder n choice old new why cause memory output (inl (is, risen)) begun =
    inl (output (λ other. let clash : Device ≡ OutOfMemory = sym is ∙ other in cc), risen, begun)
point_unwritten remaining contents folder n choice old new why cause memory output (inr is) begun = inr (inl (memory is, begun))
