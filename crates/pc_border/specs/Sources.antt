-- The sources of a recovery, as given.
use Rattle.std.specs.Prelude.{◌≡◌, ◌⊎◌, ◌==◌, ◌&&◌, ◌||◌, ℕ, Bool, true, false, not, List, [], ◌∷◌, ◌++◌, length, Option, Some, None, Result, Ok, Err, if◌then◌else◌}
use Rattle.pc_types.specs.declared.refusal.Refusal.{Refusal}
use Rattle.pc_types.specs.declared.refusal.Refusal.TheVariants.{OutOfMemory}
use Rattle.pc_model.specs.Maps.{len}
use Rattle.pc_recover.specs.Recovery.{Recovery, IsOfRun, recovery}
use Rattle.pc_wire.specs.Answers.{refusal_number}
use Rattle.pc_border.specs.declared.sources.RecoverySummary.{RecoverySummary}
use Rattle.pc_wire.specs.declared.codes.TheConstants.{BASE, PART, LOG}
use Rattle.pc_border.specs.declared.sources.Sources.{Sources}

-- the bytes of a text; none if it wasn't given
abbrev pub text_of : Option (List ℕ) → List ℕ
text_of None = []
text_of (Some bytes) = bytes

-- a text was given, with or without bytes
abbrev pub is_some : Option (List ℕ) → Bool
is_some None = false
is_some (Some bytes) = true

-- anything was given
abbrev pub is_given : Sources → Bool
is_given sources = is_some sources.base || (not (length sources.parts == 0) || is_some sources.log)

-- what is recovered from what was given
abbrev pub recovery_from : Sources → Result Recovery Refusal
recovery_from sources = recovery (text_of sources.base) sources.parts (text_of sources.log)

-- what was given once these bytes are given too: a base or a log in place of the one before, a part after those before
abbrev pub with_source : ℕ → Sources → List ℕ → Sources
with_source what sources bytes =
    if what == BASE then record sources { base = Some bytes } else
    if what == PART then record sources { parts = sources.parts ++ bytes ∷ [] } else
    record sources { log = Some bytes }

-- a store is recovered from texts that are called so
abbrev pub is_source : ℕ → Bool
is_source what = (what == BASE) || ((what == PART) || (what == LOG))

-- this is recovered from what was given, of this run
pub record IsRecoveredFrom (sources : Sources) (run : ℕ) (found : Recovery) : Type 0 where
  pub recovered : recovery_from sources ≡ Ok found
  pub of_run : IsOfRun (text_of sources.base) run

-- the number of the fault of a log's rest; 0 if there is none
abbrev pub fault_number : Option Refusal → ℕ
fault_number None = 0
fault_number (Some why) = refusal_number why

-- what was recovered of a run, in numbers, when it has that many pairs
abbrev pub summary_of_recovery : ℕ → Recovery → ℕ → RecoverySummary
summary_of_recovery run found pairs = record { run = run; pairs = pairs; entries = found.entries; skipped = length found.skipped; point = found.point; fault = fault_number found.fault }

-- a recovery of what was given returns its result in numbers, or is refused by the rules, or for an allocation failure
abbrev pub IsSummaryOf : Sources → Result RecoverySummary Refusal → Type 0
IsSummaryOf sources (Ok summary) = (run : ℕ) × (found : Recovery) × IsRecoveredFrom sources run found × (summary ≡ summary_of_recovery run found (len found.pairs))
IsSummaryOf sources (Err why) = (recovery_from sources ≡ Err why) ⊎ (why ≡ OutOfMemory)
