-- Chains of slots that record the slot of each key.
use Rattle.std.specs.Prelude.{◌≡◌, ℕ, ◌-◌, ◌<◌, List, length, Some, None, bit_and, slice_index_or}
use Rattle.std.specs.declared.random_state.RandomState.{RandomState}
use Rattle.pc_chain.specs.declared.stack.Stack.{Stack}
use Rattle.pc_chain.specs.Chains.{Avoids, AllHave}
use Rattle.pc_chain.specs.Stacks.{IsStack}
use Rattle.pc_chain.specs.Slots.{Slots, at, IsTaken}
use Rattle.pc_index.specs.Hashes.{key_hash}
use Rattle.pc_index.specs.Keys.{key_at}

-- the chain of each place, and the seed of the hashes
pub record IndexView : Type 0 where
  pub chains : List (Stack ℕ)
  pub seed : RandomState

-- the place of a key
abbrev pub bucket_of : IndexView → List ℕ → ℕ
bucket_of table key = bit_and (key_hash table.seed key) (length table.chains - 1)

-- the chain of a place
abbrev pub chain_at : IndexView → ℕ → Stack ℕ
chain_at table place = slice_index_or table.chains place (record { first = None })

-- the slots in the chain of a place have records, whose keys have that place; each record's slot is in the chain of its
-- key's place; and no two records have one key
pub record IsIndex {T : Type 0} (key_of : T → List ℕ) (slots : Slots T) (table : IndexView) : Type 0 where
  pub ids : ℕ → List ℕ
  pub chains : (place : ℕ) → place < length table.chains → IsStack (IsTaken slots.items) (at slots.links) (chain_at table place) (ids place)
  pub placed : (place : ℕ) → place < length table.chains → AllHave (λ id. (key : List ℕ) → key_at key_of slots.items id ≡ Some key → bucket_of table key ≡ place) (ids place)
  pub all : (id : ℕ) (key : List ℕ) → key_at key_of slots.items id ≡ Some key → Avoids id (ids (bucket_of table key)) → ⊥
  pub distinct : (id other : ℕ) (key : List ℕ) → key_at key_of slots.items id ≡ Some key → key_at key_of slots.items other ≡ Some key → id ≡ other
