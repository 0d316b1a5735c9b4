-- The state of a point that a folder's files have, and why none is returned.
use Rattle.std.specs.Prelude.{◌≡◌, ◌⊎◌, ℕ, List, Option, Ok, Err}
use Rattle.std.specs.Global.{Vec}
use Rattle.pc_types.specs.declared.refusal.Refusal.{Refusal}
use Rattle.pc_types.specs.declared.refusal.Refusal.TheVariants.{OutOfMemory}
use Rattle.pc_restore.specs.declared.recovery.Folder.{Folder}
use Rattle.pc_restore.specs.declared.recovery.Lost.{Lost}
use Rattle.pc_restore.specs.declared.recovery.Lost.TheVariants as lost
use Rattle.pc_restore.specs.Recoveries.{AreAllOpened, HoldsAll, IsFolderUnread, IsRulesRefusal}
use Rattle.pc_points.specs.Points.{found_database, point_state}

-- the pairs, if any, are the state of n that the folder's files have; said for known bytes of the files
abbrev pub HasState : {R : Type 0} → (R → Option (List ℕ)) → Folder R → ℕ → Option (Vec (List ℕ × List ℕ)) → Type 0
HasState remaining folder n found = (base : List ℕ) (names parts : List (List ℕ)) (log : List ℕ) → HoldsAll remaining folder base names parts log → point_state n base parts log ≡ Ok (found_database found)

-- the rules refuse what the files hold, or memory ran out
abbrev pub IsStateRefused : {R : Type 0} → (R → Option (List ℕ)) → Folder R → ℕ → Refusal → Type 0
IsStateRefused remaining folder n why = (why ≡ OutOfMemory) ⊎ (IsRulesRefusal why × ((base : List ℕ) (names parts : List (List ℕ)) (log : List ℕ) → HoldsAll remaining folder base names parts log → point_state n base parts log ≡ Err why))

-- why no state is returned: not all files were read; or they were, and what they hold is refused, or memory ran out
abbrev pub IsPointLost : {R : Type 0} → (R → Option (List ℕ)) → Folder R → ℕ → Lost R → Type 0
IsPointLost remaining folder n cause = IsFolderUnread folder cause ⊎ ((why : Refusal) × (cause ≡ lost.Folder why) × AreAllOpened folder × IsStateRefused remaining folder n why)
