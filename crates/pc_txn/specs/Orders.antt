-- Lists of keys, and the places of their keys in ascending order.
use Rattle.std.specs.Prelude.{◌≡◌, ℕ, suc, ◌<◌, List, [], ◌∷◌, length, map, slice_index_or, Option, Some, None, option_map, if◌then◌else◌, All}
use Rattle.std.specs.FinMap.{find}
use Rattle.pc_model.specs.Database.{key_cmp, same_bytes, KeysRise}

-- the place of the key, counted from 0
abbrev pub key_position : List (List ℕ) → List ℕ → Option ℕ
key_position [] key = None
key_position (k ∷ ks) key = if same_bytes k key then Some 0 else option_map suc (key_position ks key)

-- the key at the place, and no bytes past the last one
abbrev pub key_at_position : List (List ℕ) → ℕ → List ℕ
key_at_position keys place = slice_index_or keys place []

-- the places with their keys
abbrev pub entries : List (List ℕ) → List ℕ → List (List ℕ × ℕ)
entries keys order = map (λ place. (key_at_position keys place, place)) order

-- the places are in the ascending order of their keys, and the key's place is found there for every key
pub record IsOrder (keys : List (List ℕ)) (order : List ℕ) : Type 0 where
  pub within : All (λ place. place < length keys) order
  pub rise : KeysRise (entries keys order)
  pub finds : (key : List ℕ) → find key_cmp key (entries keys order) ≡ key_position keys key
