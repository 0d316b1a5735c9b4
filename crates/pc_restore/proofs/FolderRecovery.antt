-- The recovery of a folder whose files were read.
use Rattle.std.proofs.Common.{◌≡◌, ◌≢◌, ◌⊎◌, inl, inr, ℕ, Bool, List, Option, Result, refl}
use Rattle.pc_io.specs.declared.tally.Tally.{Tally}
use Rattle.pc_types.specs.declared.refusal.Refusal.{Refusal}
use Rattle.pc_types.specs.declared.refusal.Refusal.TheVariants as why
use Rattle.pc_recover.specs.Recovery.{Recovery, recovery}
use Rattle.pc_restore.specs.declared.lacks.Lacks.{Lacks}
use Rattle.pc_restore.specs.Lacks.{lacks_of}
use Rattle.pc_restore.specs.declared.recovery.Folder.{Folder}
use Rattle.pc_restore.specs.declared.recovery.Lost.{Lost}
use Rattle.pc_restore.specs.declared.recovery.Lost.TheVariants as lost
use Rattle.pc_restore.specs.Recoveries.{GoesOutUnrecovered, IsFolderUnread, IsLost}

-- a refusal is a failed allocation, or it isn't
pub memory_or : (refusal : Refusal) → (refusal ≡ why.OutOfMemory) ⊎ (refusal ≢ why.OutOfMemory)
memory_or why.OutOfMemory = inl refl
memory_or other = inr (λ e. cc)

-- the same bytes give the same recovery
pub same_recovery : (base other_base : List ℕ) (parts other_parts : List (List ℕ)) (log other_log : List ℕ) (r : Result Recovery Refusal) → base ≡ other_base → parts ≡ other_parts → log ≡ other_log
    → recovery base parts log ≡ r → recovery other_base other_parts other_log ≡ r
same_recovery base other_base parts other_parts log other_log r a b c is = rw (← a, ← b, ← c) is

-- the same parts and the same log lack the same
pub same_lacks : (is_there other_is_there : Bool) (parts other_parts : List (List ℕ)) (log other_log : List ℕ) (found : Recovery) (lacks : Lacks) → is_there ≡ other_is_there → parts ≡ other_parts → log ≡ other_log
    → lacks ≡ lacks_of is_there parts log found → lacks ≡ lacks_of other_is_there other_parts other_log found
same_lacks is_there other_is_there parts other_parts log other_log found lacks a b d is = rw (← a, ← b, ← d) is

-- if it isn't the output that failed, nothing went out
pub nothing_out : {R T : Type 0} (remaining : R → Option (List ℕ)) (contents : T → Option (List ℕ)) (printed : List (List ℕ) → Recovery → List ℕ) (folder : Folder R) (out : Tally T) (cause : Lost R) → cause ≢ lost.Output → GoesOutUnrecovered remaining contents printed folder out out cause
nothing_out remaining contents printed folder out (lost.Base why) other = refl
nothing_out remaining contents printed folder out (lost.Part name why) other = refl
nothing_out remaining contents printed folder out (lost.Log why) other = refl
nothing_out remaining contents printed folder out (lost.Folder why) other = refl
nothing_out remaining contents printed folder out lost.Damaged other = refl
nothing_out remaining contents printed folder out lost.Output other = absurd (other refl)

-- if not all files were read, nothing was recovered, and no output failed
pub unread_is_lost : {R : Type 0} (remaining : R → Option (List ℕ)) (folder : Folder R) (cause : Lost R) → IsFolderUnread folder cause → IsLost remaining folder cause × (cause ≢ lost.Output)
unread_is_lost remaining folder (lost.Base why) is = (is, λ e. cc)
unread_is_lost remaining folder (lost.Part name why) is = (is, λ e. cc)
unread_is_lost remaining folder (lost.Log why) is = (is, λ e. cc)
unread_is_lost remaining folder (lost.Folder why) is = (inl is, λ e. cc)
unread_is_lost remaining folder lost.Damaged is = absurd is
unread_is_lost remaining folder lost.Output is = absurd is
