-- The writes and reads of one transaction.
use Rattle.std.specs.Prelude.{ℕ, zero, suc, ◌==◌, ◌&&◌, Bool, List, [], ◌∷◌, length, map, Option, option_map, is_none, slice_get}
use Rattle.pc_types.specs.declared.limits.TheConstants.{MOST_WRITES}
use Rattle.pc_types.specs.declared.Change.{Change}
use Rattle.pc_types.specs.declared.Write.{Write}
use Rattle.pc_types.specs.Changes.{merged}
use Rattle.pc_model.specs.Database.{write_of, written}
use Rattle.pc_model.specs.Receipts.{Read}

-- items in their order, and how many more there is room for
pub record Roomy (X : Type 0) : Type 0 where
  pub items : List X
  pub room : ℕ

-- the keys that are written
abbrev pub written_keys : List Write → List (List ℕ)
written_keys writes = map (λ w. w.key) writes

-- a write of the key would be of one key too many
abbrev pub is_one_more : List Write → List ℕ → Bool
is_one_more writes key = (length writes == MOST_WRITES) && is_none (written writes key)

-- the change of the write at the place
abbrev pub change_at_position : List Write → ℕ → Option Change
change_at_position writes place = option_map (λ (w : Write). w.change) (slice_get writes place)

-- the writes once a later change is merged with the one at the place
abbrev pub merged_at : List Write → ℕ → Change → List Write
merged_at [] place later = []
merged_at (w ∷ ws) zero later = write_of w.key (merged w.change later) ∷ ws
merged_at (w ∷ ws) (suc place) later = w ∷ merged_at ws place later

-- the keys that are read
abbrev pub read_keys : List Read → List (List ℕ)
read_keys reads = map (λ r. r.0) reads
