-- The replies of a store that may not be open yet, and its state after them.
use Rattle.std.specs.Prelude.{◌≡◌, ◌⊎◌, ℕ, List, [], true, false, drop, None, Some, Result, Err}
use Rattle.pc_types.specs.declared.refusal.Refusal.{Refusal}
use Rattle.pc_types.specs.declared.refusal.Refusal.TheVariants.{OutOfMemory, BadKind, WrongPhase}
use Rattle.pc_engine.specs.Store.{setting_of}
use Rattle.pc_engine.specs.Stands.{Stands}
use Rattle.pc_wire.specs.Answers.{plain, refusal_told}
use Rattle.pc_wire.specs.Shown.{key_shown, value_shown, filled}
use Rattle.pc_border.specs.Sources.{with_source, is_source, IsSummaryOf}
use Rattle.pc_border.specs.Openings.{option_fault, IsStart, IsUnopened}
use Rattle.pc_border.specs.Stores.{IsReplyShown, IsText}
use Rattle.pc_wire.specs.declared.answers.Answer.{Answer}
use Rattle.pc_wire.specs.declared.calls.Call.{Call}
use Rattle.pc_wire.specs.declared.codes.TheConstants.{CLOSED, GIVEN, OPEN, OPENED}
use Rattle.pc_border.specs.declared.open_store.OpenStore.{OpenStore}
use Rattle.pc_border.specs.declared.opening.Options.{Options}
use Rattle.pc_border.specs.declared.sources.RecoverySummary.{RecoverySummary}
use Rattle.pc_border.specs.declared.store.Store.{Store}
use Rattle.pc_border.specs.declared.store.Store.TheVariants.{Gathering, Open}

-- a call was answered by the open store, and it stays open; one that isn't open stays as it is
abbrev pub IsCallAnswered : Store → Call → List ℕ → List ℕ → Answer → Store → Type 0
IsCallAnswered (Gathering sources) call own bytes answer new = (answer ≡ plain CLOSED) × (new ≡ Gathering sources)
IsCallAnswered (Open old) call own bytes answer new = (opened : OpenStore) × (new ≡ Open opened) × IsReplyShown old call own bytes answer opened

-- a text was shown by the open store, and it stays open; one that isn't open stays as it is
abbrev pub IsTextShown : Store → ℕ → ℕ → Answer → Store → Type 0
IsTextShown (Gathering sources) what number answer new = (answer ≡ plain CLOSED) × (new ≡ Gathering sources)
IsTextShown (Open old) what number answer new = (opened : OpenStore) × (new ≡ Open opened) × IsText what number old answer opened

-- what was shown is copied into the rooms, the value or the text from this byte on
abbrev pub IsCopied : Store → ℕ → List ℕ → List ℕ → List ℕ → List ℕ → Type 0
IsCopied (Gathering sources) from key_old key_new value_old value_new = (key_new ≡ key_old) × (value_new ≡ value_old)
IsCopied (Open opened) from key_old key_new value_old value_new =
    (key_new ≡ filled (key_shown opened.shown) key_old) × (value_new ≡ filled (drop from (value_shown opened.shown)) value_old)

-- a text was given, or nothing has changed
abbrev pub IsGivenTo : Store → ℕ → List ℕ → Answer → Store → Type 0
IsGivenTo (Gathering sources) what bytes answer new =
    ((answer ≡ plain GIVEN) × (new ≡ Gathering (with_source what sources bytes)) × (is_source what ≡ true))
    ⊎ ((new ≡ Gathering sources) × (((answer ≡ refusal_told BadKind) × (is_source what ≡ false)) ⊎ (answer ≡ refusal_told OutOfMemory)))
IsGivenTo (Open opened) what bytes answer new = (answer ≡ plain OPEN) × (new ≡ Open opened)

-- a store was opened over what was given, which represents the empty history; or it was refused, and what was given
-- stays
abbrev pub IsOpenedBy : Store → Options → Answer → Store → Type 0
IsOpenedBy (Gathering sources) options answer new =
    ((answer ≡ plain OPENED) × ((opened : OpenStore) × (new ≡ Open opened) × Stands opened.world [] × IsStart sources options (setting_of opened.world)) × (option_fault options ≡ None))
    ⊎ ((why : Refusal) × (answer ≡ refusal_told why) × (new ≡ Gathering sources) × ((option_fault options ≡ Some why) ⊎ ((option_fault options ≡ None) × IsUnopened sources options why) ⊎ (why ≡ OutOfMemory)))
IsOpenedBy (Open opened) options answer new = (answer ≡ plain OPEN) × (new ≡ Open opened)

-- this is recovered from what was given; a store that is open has nothing to recover from
abbrev pub IsRecoverySummary : Store → Result RecoverySummary Refusal → Type 0
IsRecoverySummary (Gathering sources) result = IsSummaryOf sources result
IsRecoverySummary (Open opened) result = result ≡ Err WrongPhase
