-- A base for a run that goes on from a folder: its pairs, the reports of the folder's gaps, and why there may be none.
use Rattle.std.specs.Prelude.{◌≡◌, ◌≢◌, ◌⊎◌, ◌++◌, ◌+◌, ◌≤◌, ◌<◌, ◌^◌, ℕ, Bool, true, false, List, [], Option, Some, None, Result, Ok, is_ok, codes}
use Rattle.pc_types.specs.declared.limits.TheConstants.{MOST_FILE_ENTRIES}
use Rattle.pc_types.specs.declared.refusal.Refusal.{Refusal}
use Rattle.pc_types.specs.declared.refusal.Refusal.TheVariants.{Full}
use Rattle.pc_io.specs.declared.tally.Tally.{Tally}
use Rattle.pc_io.specs.Tallies.{Puts}
use Rattle.pc_model.specs.Files.{BaseFile}
use Rattle.pc_model.specs.Maps.{len}
use Rattle.pc_recover.specs.Recovery.{IsOfRun, Recovery, recovery}
use Rattle.pc_restore.specs.declared.lacks.Lacks.{Lacks}
use Rattle.pc_restore.specs.declared.lacks.LogHeader.{LogHeader}
use Rattle.pc_restore.specs.declared.lacks.LogHeader.TheVariants.{Missing, Cut, Whole}
use Rattle.pc_restore.specs.declared.recovery.Folder.{Folder}
use Rattle.pc_restore.specs.declared.recovery.Lost.{Lost}
use Rattle.pc_restore.specs.declared.recovery.Lost.TheVariants as lost
use Rattle.pc_restore.specs.Lacks.{is_damaged, lacks_of, refuses}
use Rattle.pc_restore.specs.Reports.{count_line, damage_text}
use Rattle.pc_restore.specs.Recoveries.{AreAllOpened, HoldsAll, IsLost}

-- the state recovered from the bytes of a base, of parts and of a log, and their run
pub record AreBytesWorth (base : List ℕ) (parts : List (List ℕ)) (log : List ℕ) (run : ℕ) (found : Recovery) : Type 0 where
  pub recovered : recovery base parts log ≡ Ok found
  pub of_run : IsOfRun base run

-- the recovered state of a run, as the base of the next one, whose point is 0
abbrev pub next_base : ℕ → Recovery → BaseFile
next_base run found = record { run = run + 1; point = 0; pairs = found.pairs }

-- the line of a log of which no entry is used, and how many it has
abbrev pub unused_line : Option ℕ → List ℕ
unused_line None = []
unused_line (Some count) = count_line (codes "log unused ") count

-- the line of a log that isn't there, that ends within its header, or of which no entry is used
abbrev pub log_state_line : LogHeader → Option ℕ → List ℕ
log_state_line Missing unused = codes "log NoFile\n"
log_state_line Cut unused = codes "log Short\n"
log_state_line Whole unused = unused_line unused

-- the lines of what a folder lacks: of the state of its log, and of the damage of the log and of the parts with these names
abbrev pub lacks_text : List (List ℕ) → Recovery → Lacks → List ℕ
lacks_text names found lacks = log_state_line lacks.header lacks.unused ++ damage_text names found

-- they are reported, as far as the writer takes them
abbrev pub TellsLacks : {T : Type 0} → (T → Option (List ℕ)) → Tally T → Tally T → List (List ℕ) → Recovery → Lacks → Type 0
TellsLacks contents old new names found lacks = (told : Result (Unit {0}) Refusal) × Puts contents old new told (lacks_text names found lacks)

-- The base was made of a folder of which every file was opened, and its point is 0. If the files' bytes are known it is the
-- state recovered from them, as the next run's base; they aren't damaged, or damage is accepted; and what they lack was reported.
pub record IsBaseMade {R T : Type 0} (remaining : R → Option (List ℕ)) (contents : T → Option (List ℕ)) (folder : Folder R) (accepts_damage : Bool) (old new : Tally T) (made : BaseFile) : Type 0 where
  pub opened : AreAllOpened folder
  pub start : made.point ≡ 0
  pub worth : (base : List ℕ) (names parts : List (List ℕ)) (log : List ℕ) → HoldsAll remaining folder base names parts log →
      (run : ℕ) × (found : Recovery) × AreBytesWorth base parts log run found × (made ≡ next_base run found) × (refuses accepts_damage (lacks_of (is_ok folder.log) parts log found) ≡ false)
      × TellsLacks contents old new names found (lacks_of (is_ok folder.log) parts log found)

-- the next run's number, or the count of the pairs, is more than a base may have
abbrev pub HasNoNext : ℕ → Recovery → Type 0
HasNoNext run found = (2 ^ 64 ≤ run + 1) ⊎ (MOST_FILE_ENTRIES < len found.pairs)

-- a state was recovered, but there is no base of it; said if the files' bytes are known
abbrev pub IsPastLimits : {R : Type 0} → (R → Option (List ℕ)) → Folder R → Type 0
IsPastLimits remaining folder = (base : List ℕ) (names parts : List (List ℕ)) (log : List ℕ) → HoldsAll remaining folder base names parts log →
    (run : ℕ) × (found : Recovery) × AreBytesWorth base parts log run found × HasNoNext run found

-- Every file of the folder was opened, and damage is not accepted. If the files' bytes are known there would be a base of the state
-- recovered from them, but they are damaged, and what they lack was reported.
pub record IsRefusedAsDamaged {R T : Type 0} (remaining : R → Option (List ℕ)) (contents : T → Option (List ℕ)) (folder : Folder R) (accepts_damage : Bool) (old new : Tally T) : Type 0 where
  pub opened : AreAllOpened folder
  pub unaccepted : accepts_damage ≡ false
  pub worth : (base : List ℕ) (names parts : List (List ℕ)) (log : List ℕ) → HoldsAll remaining folder base names parts log →
      (run : ℕ) × (found : Recovery) × AreBytesWorth base parts log run found × ¬ HasNoNext run found × (is_damaged (lacks_of (is_ok folder.log) parts log found) ≡ true)
      × TellsLacks contents old new names found (lacks_of (is_ok folder.log) parts log found)

-- Why no base is made of a folder: nothing is recovered, or there is no base of it, and nothing was reported; or it is damaged.
abbrev pub IsBaseUnmade : {R T : Type 0} → (R → Option (List ℕ)) → (T → Option (List ℕ)) → Folder R → Bool → Tally T → Tally T → Lost R → Type 0
IsBaseUnmade remaining contents folder accepts_damage old new cause =
    ((new ≡ old) × ((IsLost remaining folder cause × (cause ≢ lost.Output)) ⊎ ((cause ≡ lost.Folder Full) × AreAllOpened folder × IsPastLimits remaining folder)))
    ⊎ ((cause ≡ lost.Damaged) × IsRefusedAsDamaged remaining contents folder accepts_damage old new)
