-- The keys that a commit adds to the open set, and how many writes a transaction may have.
use Rattle.std.specs.Prelude.{ℕ, ◌==◌, ◌&&◌, Bool, true, false, List, [], ◌∷◌, length, is_none}
use Rattle.pc_types.specs.declared.Write.{Write}
use Rattle.pc_types.specs.declared.limits.TheConstants.{MOST_WRITES}
use Rattle.pc_model.specs.Database.{written}
use Rattle.pc_records.specs.Rows.{Row, record_of, is_in_open_set}

-- the keys with this one before them, if it is new
abbrev pub with_new : Bool → List ℕ → List (List ℕ) → List (List ℕ)
with_new true key keys = keys
with_new false key keys = key ∷ keys

-- the keys of the writes that are not in the open set
abbrev pub new_keys : List Row → List Write → List (List ℕ)
new_keys rows [] = []
new_keys rows (w ∷ ws) = with_new (is_in_open_set (record_of rows w.key)) w.key (new_keys rows ws)

-- a 257th key
abbrev pub is_one_too_many : List Write → List ℕ → Bool
is_one_too_many writes key = (length writes == MOST_WRITES) && is_none (written writes key)
