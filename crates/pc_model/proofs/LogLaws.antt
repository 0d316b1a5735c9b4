-- Replay of longer logs.
use Rattle.std.proofs.Common.{◌≡◌, List, [], ◌∷◌, ◌++◌, refl}
use Rattle.pc_types.specs.declared.Entry.{Entry}
use Rattle.pc_types.specs.declared.Entry.TheVariants.{Commit, Token}
use Rattle.pc_model.specs.Database.{Database, applied_all}
use Rattle.pc_model.specs.Log.{after}

-- replay of a log in two pieces is replay of the second on the replay of the first
pub after-append : (db : Database) (log more : List Entry) → after db (log ++ more) ≡ after (after db log) more
after-append db [] more = refl
after-append db (Commit s ws ∷ log) more = after-append (applied_all db ws) log more
after-append db (Token phase point ∷ log) more = after-append db log more
