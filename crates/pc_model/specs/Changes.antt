-- When a change applies, and what the writes of a transaction do as one for each key.
use Rattle.std.specs.Prelude.{◌≡◌, ℕ, true, List, [], ◌∷◌, Option, Some, None, is_some}
use Rattle.pc_types.specs.declared.Change.{Change}
use Rattle.pc_types.specs.declared.Change.TheVariants.{Add}
use Rattle.pc_types.specs.declared.Write.{Write}
use Rattle.pc_types.specs.Changes.{added}
use Rattle.pc_model.specs.Maps.{get}
use Rattle.pc_model.specs.Database.{Database, applied, applied_all, with_write, written}
use Rattle.pc_types.specs.declared.Entry.{Entry}
use Rattle.pc_types.specs.declared.Entry.TheVariants.{Commit, Token}

-- An add applies if its key has a number and the sum fits; the other changes always do.
abbrev pub Applies : Change → Option (List ℕ) → Type 0
Applies (Add d) there = is_some (added d there) ≡ true
Applies other there = Unit {0}

-- the same of what the writes do to a key, if anything
abbrev pub AppliesIfAny : Option Change → Option (List ℕ) → Type 0
AppliesIfAny None there = Unit {0}
AppliesIfAny (Some change) there = Applies change there

-- what the writes of a transaction do to each key applies to the database before it
abbrev pub AllApply : Database → List Write → Type 0
AllApply db ws = (key : List ℕ) → AppliesIfAny (written ws key) (get db key)

-- In each commit of a log what is done to each key applies to the database right before it: each add finds a number there, and
-- its sum fits.
abbrev pub AddsApply : Database → List Entry → Type 0
AddsApply db [] = Unit {0}
AddsApply db (Commit session writes ∷ log) = AllApply db writes × AddsApply (applied_all db writes) log
AddsApply db (Token phase point ∷ log) = AddsApply db log

-- each of the writes applies to what the ones before it have made of the database
abbrev pub AllApplyInTurn : Database → List Write → Type 0
AllApplyInTurn db [] = Unit {0}
AllApplyInTurn db (w ∷ ws) = Applies w.change (get db w.key) × AllApplyInTurn (applied db w) ws

-- the writes, and more of them, as one for each key
abbrev pub merged_writes : List Write → List Write → List Write
merged_writes ws [] = ws
merged_writes ws (w ∷ more) = merged_writes (with_write ws w) more
