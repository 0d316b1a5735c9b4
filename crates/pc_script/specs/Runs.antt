-- The exit status of a run, and its report of a fault.
use Rattle.std.specs.Prelude.{◌≡◌, ◌⊎◌, ℕ, List, Option, IsOk, IfOk, IfSome, MatchOption}
use Rattle.std.specs.declared.result.Result.{Result}
use Rattle.std.specs.Io.KnownBytes.{Appends}
use Rattle.pc_types.specs.declared.refusal.Refusal.{Refusal}
use Rattle.pc_io.specs.Counted.{HasRisen, AppendsBeginning}
use Rattle.pc_io.specs.Tallies.{inner_of, failures_of}
use Rattle.pc_io.specs.declared.tally.Tally.{Tally}
use Rattle.pc_script.specs.declared.setup.Setup.{Setup}
use Rattle.pc_script.specs.declared.run.ScriptFault.{ScriptFault}
use Rattle.pc_script.specs.declared.run.ScriptFault.TheVariants as fault
use Rattle.pc_script.specs.declared.script.Status.{Status}
use Rattle.pc_script.specs.declared.script.Status.TheVariants as status
use Rattle.pc_script.specs.Scripts.{IsScriptAnswered, IsAnsweredInPart}
use Rattle.pc_texts.specs.Files.{IsUnread, refusal_of}
use Rattle.pc_texts.specs.declared.files.Unread.{Unread}
use Rattle.pc_texts.specs.declared.files.Unread.TheVariants as unread

-- the exit status of a script that was answered
abbrev pub exit_of : Status → ℕ
exit_of status.Done = 0
exit_of status.BadLines = 3
exit_of status.NoStore = 1

-- A script has no status of its own for this reason. If it isn't there or couldn't be read, the output is as it was; otherwise an
-- allocation failed for a line of it.
abbrev pub IsScriptUnanswered : {R T : Type 0} → Result R Refusal → Tally T → Tally T → Unread R → Type 0
IsScriptUnanswered opened old new why = IsUnread opened why × ((new ≡ old) ⊎ (why ≡ unread.NoMemory))

-- a run ended without a status of the script's own, for a fault of the script, or for one of the output, which was counted
abbrev pub IsFault : {R T : Type 0} → Result R Refusal → Tally T → Tally T → ScriptFault R → Type 0
IsFault opened old new (fault.Script why) = IsScriptUnanswered opened old new why
IsFault opened old new fault.Output = HasRisen (failures_of old) (failures_of new)

-- The script was opened, and all of its lines were answered, with this status: what they may print went out, and nothing failed; said
-- of what is printed if the bytes are known.
abbrev pub AnswersAll : {R T : Type 0} → (R → Option (List ℕ)) → (T → Option (List ℕ)) → Setup → Result R Refusal → Tally T → Tally T → Status → Type 0
AnswersAll remaining contents setup opened old new status = IsOk opened × (failures_of new ≡ failures_of old)
    × IfOk opened (λ reader. IfSome (remaining reader) (λ script. (text : List ℕ) × Appends (contents (inner_of old)) (contents (inner_of new)) text × IsScriptAnswered setup script status text))

-- a prefix of what some first lines of the script may print went out, and nothing else; said if the bytes are known
abbrev pub AnswersInPart : {R T : Type 0} → (R → Option (List ℕ)) → (T → Option (List ℕ)) → Setup → Result R Refusal → Tally T → Tally T → Type 0
AnswersInPart remaining contents setup opened old new = IfOk opened (λ reader. IfSome (remaining reader) (λ script.
    (text : List ℕ) × AppendsBeginning (contents (inner_of old)) (contents (inner_of new)) text × IsAnsweredInPart setup script text))

-- Why the status is 1, and what is reported: the output failed, which was counted, or the store couldn't be made, and nothing is
-- reported; or there is a reason, which is handed back, and reported by its refusal.
abbrev pub IsScriptFailure : {R T : Type 0} → (R → Option (List ℕ)) → (T → Option (List ℕ)) → Setup → Result R Refusal → Tally T → Tally T → Option (Unread R) → Type 0 → (Refusal → Type 0) → Type 0
IsScriptFailure remaining contents setup opened old new handed Quiet Told = (HasRisen (failures_of old) (failures_of new) × Quiet)
    ⊎ (MatchOption handed ⊥ (λ why. IsScriptUnanswered opened old new why × Told (refusal_of why)) ⊎ (Quiet × AnswersAll remaining contents setup opened old new status.NoStore))
