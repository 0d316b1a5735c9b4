-- The store of a handle.
use Rattle.std.specs.Prelude.{◌≡◌, ◌⊎◌, ℕ, [], Option, None, Some, Ok, Err}
use Rattle.pc_types.specs.declared.refusal.Refusal.{Refusal}
use Rattle.pc_types.specs.declared.refusal.Refusal.TheVariants.{OutOfMemory}
use Rattle.pc_wire.specs.Answers.{refusal_number}
use Rattle.pc_border.specs.Handled.{IsRecoverySummary}
use Rattle.pc_border.specs.declared.sources.RecoverySummary.{RecoverySummary}
use Rattle.pc_border.specs.declared.store.Store.{Store}
use Rattle.pc_border.specs.declared.store.Store.TheVariants.{Gathering}

-- a handle that has nothing represents a store that isn't open, and for which nothing was given
abbrev pub store_of : Option Store → Store
store_of None = Gathering (record { base = None; parts = []; log = None })
store_of (Some store) = store

-- the recovered state is reported, by 0; or why it wasn't recovered, by the number of the refusal, and no state is
-- reported
abbrev pub IsSummaryReturned : Store → ℕ → RecoverySummary → RecoverySummary → Type 0
IsSummaryReturned store status old new =
    ((status ≡ 0) × IsRecoverySummary store (Ok new))
    ⊎ ((why : Refusal) × (status ≡ refusal_number why) × (new ≡ old) × (IsRecoverySummary store (Err why) ⊎ (why ≡ OutOfMemory)))
