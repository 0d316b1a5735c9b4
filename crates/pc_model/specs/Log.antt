-- The log, its replay, and the states of points. A point of consistency is its resolve token in the log.
use Rattle.std.specs.Prelude.{ℕ, ◌==◌, ◌&&◌, Bool, true, false, List, [], ◌∷◌, if◌then◌else◌}
use Rattle.pc_types.specs.declared.Entry.{Entry}
use Rattle.pc_types.specs.declared.Entry.TheVariants.{Commit, Token}
use Rattle.pc_types.specs.declared.Phase.{Phase}
use Rattle.pc_types.specs.declared.Phase.TheVariants.{Resolve}
use Rattle.pc_model.specs.Database.{Database, applied_all}

-- replay: the database after the log's commits, in order
abbrev pub after : Database → List Entry → Database
after db [] = db
after db (Commit session writes ∷ log) = after (applied_all db writes) log
after db (Token phase point ∷ log) = after db log

-- the phase whose token is a virtual point of consistency
abbrev pub is_resolve : Phase → Bool
is_resolve Resolve = true
is_resolve other = false

-- the token (phase, m) is that of the point: its resolve token
abbrev pub is_token_of : ℕ → Phase → ℕ → Bool
is_token_of point phase m = is_resolve phase && (m == point)

-- the log before the point's token
abbrev pub front : ℕ → List Entry → List Entry
front point [] = []
front point (Commit session writes ∷ log) = Commit session writes ∷ front point log
front point (Token phase m ∷ log) = if is_token_of point phase m then [] else Token phase m ∷ front point log

-- the log after the point's token, or nothing if it has none
abbrev pub log_after_point : ℕ → List Entry → List Entry
log_after_point point [] = []
log_after_point point (Commit session writes ∷ log) = log_after_point point log
log_after_point point (Token phase m ∷ log) = if is_token_of point phase m then log else log_after_point point log

-- the log has the point's token
abbrev pub has_token : ℕ → List Entry → Bool
has_token point [] = false
has_token point (Commit session writes ∷ log) = has_token point log
has_token point (Token phase m ∷ log) = if is_token_of point phase m then true else has_token point log

-- the state of a point: the database after what was committed before its token; that of 0 is the base
abbrev pub state_at : Database → List Entry → ℕ → Database
state_at base log point = if point == 0 then base else after base (front point log)
