-- The start of a store, and the reasons why it isn't opened.
use Rattle.std.specs.Prelude.{◌≡◌, ◌⊎◌, ◌<◌, ◌≤◌, ◌+◌, ◌^◌, ◌==◌, ℕ, nat_lt, Bool, [], true, false, Option, Some, None, Err, if◌then◌else◌}
use Rattle.pc_types.specs.declared.limits.TheConstants.{MOST_FILE_ENTRIES, MOST_KEYS, MOST_SESSIONS}
use Rattle.pc_types.specs.declared.refusal.Refusal.{Refusal}
use Rattle.pc_types.specs.declared.refusal.Refusal.TheVariants.{OutOfMemory, Full, NoSession, BadLength}
use Rattle.pc_model.specs.Database.{database_of}
use Rattle.pc_model.specs.Files.{BaseFile}
use Rattle.pc_model.specs.Maps.{len}
use Rattle.pc_model.specs.Replies.{Setting}
use Rattle.pc_recover.specs.Recovery.{Recovery}
use Rattle.pc_engine.specs.Runs.{starting}
use Rattle.pc_border.specs.Sources.{is_given, recovery_from, IsRecoveredFrom}
use Rattle.pc_border.specs.declared.opening.Options.{Options}
use Rattle.pc_border.specs.declared.sources.Sources.{Sources}

-- why no store has these options, if none has
abbrev pub option_fault : Options → Option Refusal
option_fault options =
    if options.sessions == 0 then Some NoSession else if nat_lt MOST_SESSIONS options.sessions then Some NoSession else
    if options.capacity == 0 then Some BadLength else if nat_lt MOST_KEYS options.capacity then Some BadLength else None

-- the base that a store starts from: without pairs if nothing was given, else the state recovered from what was given, as the base of
-- the next run
abbrev pub IsBaseOf : Bool → Sources → ℕ → BaseFile → Type 0
IsBaseOf false sources run base = base ≡ record { run = run; point = 0; pairs = database_of [] }
IsBaseOf true sources run base = (last : ℕ) × (found : Recovery) × IsRecoveredFrom sources last found × (base ≡ record { run = last + 1; point = 0; pairs = found.pairs })

-- what a store starts from that is opened with these options
abbrev pub IsStart : Sources → Options → Setting → Type 0
IsStart sources options setting = (base : BaseFile) × IsBaseOf (is_given sources) sources options.run base × (setting ≡ starting base options.sessions options.capacity)

-- there is no base of what was given: the rules refuse it, it has no next run or more pairs than a base may have, or an allocation
-- failed
abbrev pub IsBaseless : Sources → Refusal → Type 0
IsBaseless sources why =
    (recovery_from sources ≡ Err why)
    ⊎ ((why ≡ Full) × ((last : ℕ) × (found : Recovery) × IsRecoveredFrom sources last found × ((2 ^ 64 ≤ last + 1) ⊎ (MOST_FILE_ENTRIES < len found.pairs))))
    ⊎ (why ≡ OutOfMemory)

-- a store with valid options isn't opened: there is no base, or it has more pairs than there is room for
abbrev pub IsUnopened : Sources → Options → Refusal → Type 0
IsUnopened sources options why =
    IsBaseless sources why ⊎ ((why ≡ Full) × ((base : BaseFile) × IsBaseOf (is_given sources) sources options.run base × (options.capacity < len base.pairs)))
