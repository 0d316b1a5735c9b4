-- What a run of a script prints, all of it or a part, and what a failure of it is.
use Rattle.std.proofs.Common.{◌≡◌, ◌⊎◌, ℕ, List, [], Option, Some, None, Result, Ok, Err, refl, subst, ap, sym, ◌∙◌, inl, inr, arith}
use Rattle.std.specs.Prelude.{IfOk, IfErr, IfSome}
use Rattle.std.specs.Io.KnownBytes.{Appends, Keeps}
use Rattle.std.proofs.lemmas.List.{append-nil}
use Rattle.pc_io.specs.Counted.{HasRisen, AppendsBeginning}
use Rattle.pc_io.specs.Tallies.{inner_of, failures_of}
use Rattle.pc_types.specs.declared.refusal.Refusal.{Refusal}
use Rattle.pc_types.specs.declared.refusal.Refusal.TheVariants.{OutOfMemory, Device}
use Rattle.pc_io.specs.declared.tally.Tally.{Tally}
use Rattle.pc_io.proofs.KnownBytesLaws.{appends_nothing}
use Rattle.pc_model.specs.Maps.{empty}
use Rattle.pc_script.specs.declared.script.Status.{Status}
use Rattle.pc_script.specs.declared.setup.Setup.{Setup}
use Rattle.pc_script.specs.Runs.{AnswersInPart}
use Rattle.pc_lines.specs.Lines.{lines_in}
use Rattle.pc_script.specs.Scripts.{IsScriptAnswered, IsAnsweredInPart}
use Rattle.pc_script.specs.Scripts.ScriptStage.{Reading}
use Rattle.pc_texts.specs.Outputs.{IsUnprinted}
use Rattle.pc_texts.specs.declared.files.Unread.{Unread}
use Rattle.pc_texts.specs.declared.files.Unread.TheVariants as unread
use Rattle.pc_script.specs.declared.run.ScriptFault.{ScriptFault}
use Rattle.pc_script.specs.declared.run.ScriptFault.TheVariants as fault
use Rattle.pc_texts.proofs.Begun.{appends_kept, begins_kept, whole_begins}

-- a prefix of what some first lines print went out
abbrev pub BeginsAnswers : Setup → List ℕ → Option (List ℕ) → Option (List ℕ) → Type 0
BeginsAnswers setup script old new = (text : List ℕ) × AppendsBeginning old new text × IsAnsweredInPart setup script text

-- the first lines of a script may be none
pub nothing_begins : (setup : Setup) (script : List ℕ) (a : Option (List ℕ)) → BeginsAnswers setup script a a
nothing_begins setup script a = ([], whole_begins a a [] (appends_nothing a), ([], lines_in script, Reading empty, refl, (refl, refl)))

-- they may be all
pub all_begins : (setup : Setup) (script : List ℕ) (status : Status) (a b : Option (List ℕ)) → (text : List ℕ) × Appends a b text × IsScriptAnswered setup script status text → BeginsAnswers setup script a b
all_begins setup script status a b all = (all.0, whole_begins a b all.0 all.1, (lines_in script, [], all.2.0, append-nil (lines_in script), all.2.1))

-- all that was printed has gone out
answers_all : (setup : Setup) (script : List ℕ) (status : Status) (a b c : Option (List ℕ)) (answered : Result Status Refusal) → answered ≡ Ok status → Keeps b c
    → IfOk answered (λ given. (text : List ℕ) × Appends a b text × IsScriptAnswered setup script given text) → (text : List ℕ) × Appends a c text × IsScriptAnswered setup script status text
answers_all setup script status a b c (Ok given) is kept all =
    let same : given ≡ status = cc in
    (all.0, appends_kept a b c all.0 all.1 kept, subst (λ s. IsScriptAnswered setup script s all.0) same all.2)
answers_all setup script status a b c (Err e) is kept all = absurd (let other : Err e ≡ Ok status = is in cc)

-- a script that was answered, and then a flush
answers_begin : (setup : Setup) (script : List ℕ) (a b c : Option (List ℕ)) (answered : Result Status Refusal) → Keeps b c
    → IfOk answered (λ status. (text : List ℕ) × Appends a b text × IsScriptAnswered setup script status text) → IfErr answered (λ e. BeginsAnswers setup script a b)
    → BeginsAnswers setup script a c
answers_begin setup script a b c (Ok status) kept all in_part = let p = all_begins setup script status a b all in (p.0, begins_kept a b c p.0 p.1 kept, p.2)
answers_begin setup script a b c (Err e) kept all in_part = (in_part.0, begins_kept a b c in_part.0 in_part.1 kept, in_part.2)

module _ {R : Type 0} (remaining : R → Option (List ℕ)) (Holds : List ℕ → Type 0) where
  where_known : (left : Option (List ℕ)) (bytes : List ℕ) → IfSome left (λ script. bytes ≡ script) → Holds bytes → IfSome left Holds
  where_known None bytes read holds = tt
  where_known (Some script) bytes read holds = subst Holds read holds

  of_read : (opened : Result R Refusal) (bytes : List ℕ) → IfOk opened (λ reader. IfSome (remaining reader) (λ script. bytes ≡ script)) → Holds bytes
      → IfOk opened (λ reader. IfSome (remaining reader) Holds)
  of_read (Ok reader) bytes read holds = where_known (remaining reader) bytes read holds
  of_read (Err why) bytes read holds = tt

-- of the bytes that were read
module _ {R T : Type 0} (remaining : R → Option (List ℕ)) (contents : T → Option (List ℕ)) (setup : Setup) (a b c : Tally T) (opened : Result R Refusal) (bytes : List ℕ)
    (read : IfOk opened (λ reader. IfSome (remaining reader) (λ script. bytes ≡ script))) (answered : Result Status Refusal)
    (all : IfOk answered (λ status. (text : List ℕ) × Appends (contents (inner_of a)) (contents (inner_of b)) text × IsScriptAnswered setup bytes status text))
    (kept : Keeps (contents (inner_of b)) (contents (inner_of c))) where
  -- a prefix of what was printed of them went out
  pub part_of_read : IfErr answered (λ e. BeginsAnswers setup bytes (contents (inner_of a)) (contents (inner_of b))) → AnswersInPart remaining contents setup opened a c
  part_of_read in_part =
      of_read remaining (λ script. BeginsAnswers setup script (contents (inner_of a)) (contents (inner_of c))) opened bytes read (answers_begin setup bytes (contents (inner_of a)) (contents (inner_of b)) (contents (inner_of c)) answered kept all in_part)

  -- all of it
  pub all_of_read : (status : Status) → answered ≡ Ok status
      → IfOk opened (λ reader. IfSome (remaining reader) (λ script. (text : List ℕ) × Appends (contents (inner_of a)) (contents (inner_of c)) text × IsScriptAnswered setup script status text))
  all_of_read status is =
      of_read remaining (λ script. (text : List ℕ) × Appends (contents (inner_of a)) (contents (inner_of c)) text × IsScriptAnswered setup script status text) opened bytes read
      (answers_all setup bytes status (contents (inner_of a)) (contents (inner_of b)) (contents (inner_of c)) answered is kept all)

-- of a script that wasn't read
pub in_part_of_none : {R T : Type 0} (remaining : R → Option (List ℕ)) (contents : T → Option (List ℕ)) (setup : Setup) (opened : Result R Refusal) (out : Tally T) → AnswersInPart remaining contents setup opened out out
in_part_of_none remaining contents setup (Err why) out = tt
in_part_of_none remaining contents setup (Ok reader) out = by (remaining reader)
  where
    by : (left : Option (List ℕ)) → IfSome left (λ script. BeginsAnswers setup script (contents (inner_of out)) (contents (inner_of out)))
    by None = tt
    by (Some script) = nothing_begins setup script (contents (inner_of out))

-- what was answered wasn't lost
pub not_lost : (answered : Result Status Refusal) (status : Status) → answered ≡ Ok status → ¬ (answered ≡ Err Device)
not_lost answered status is lost = let both : Ok status ≡ Err Device = sym is ∙ lost in cc

module _ {T : Type 0} (a b c : Tally T) where
  -- the output failed, while it was answered or at the flush after it
  pub output_failed : (answered : Result Status Refusal) → IfErr answered (λ e. (e ≡ OutOfMemory) ⊎ (e ≡ Device)) → (answered ≡ Err Device → HasRisen (failures_of a) (failures_of b))
      → (¬ (answered ≡ Err Device) → failures_of b ≡ failures_of a) → IsUnprinted answered b c Device → HasRisen (failures_of a) (failures_of c)
  output_failed (Ok status) refusals device sound (inl both) = absurd (let other : Ok status ≡ Err Device = both.0 in cc)
  output_failed (Ok status) refusals device sound (inr both) = omega (arith, both.1, sound (λ (is : Ok status ≡ Err Device). cc))
  output_failed (Err e) refusals device sound (inl (is, inl same)) = omega (arith, device is, same)
  output_failed (Err e) refusals device sound (inl (is, inr risen)) = omega (arith, device is, risen)
  output_failed (Err e) (inl memory) device sound (inr both) = omega (arith, both.1, sound (λ (is : Err e ≡ Err Device). cc))
  output_failed (Err e) (inr is) device sound (inr both) = omega (arith, both.1, device (ap Err is))

-- what keeps a script's bytes from being had keeps its run from a status of its own
pub unopened_faults : {R T X : Type 0} (opened : Result R Refusal) (read : Result X (Unread R)) (why : Unread R) (answered : Result Status (ScriptFault R)) (out : Tally T) → read ≡ Err why → answered ≡ Err (fault.Script why)
    → IfErr opened (λ absent. read ≡ Err (unread.Absent absent)) → IfErr opened (λ absent. (answered ≡ Err (fault.Script (unread.Absent absent))) × (out ≡ out))
unopened_faults (Ok reader) read why answered out is faults unopened = tt
unopened_faults (Err absent) read why answered out is faults unopened = (cc, refl)
