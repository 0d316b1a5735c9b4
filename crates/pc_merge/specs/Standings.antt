-- The states of a merge's inputs, and which points they keep to.
use Rattle.std.specs.Prelude.{◌≡◌, ◌≢◌, ◌<◌, ◌⊎◌, ℕ, Bool, List, Option, Some, None, Result, Ok, Err, length, map, slice_index_or, ⊤}
use Rattle.std.specs.List.{All}
use Rattle.pc_io.specs.Counted.{HasRisen}
use Rattle.pc_types.specs.declared.Refusal.{Refusal}
use Rattle.pc_types.specs.declared.Refusal.TheVariants.{Device}
use Rattle.pc_types.specs.declared.Triple.{Triple}
use Rattle.pc_merge.specs.Coming.{IsWithin, Standing}
use Rattle.pc_merge.specs.Tournaments.{first_entry_at}

-- the state of the input at a place
abbrev pub standing_at : List Standing → ℕ → Standing
standing_at standings place = slice_index_or standings place (record { refused = None; failures = 0 })

-- the device of one of the inputs failed: its count has increased, or that was reported before
abbrev pub HasFailed : List Standing → List Standing → Type 0
HasFailed was now = (place : ℕ) × (place < length was) × (((standing_at was place).refused ≡ Some Device) ⊎ HasRisen (standing_at was place).failures (standing_at now place).failures)

-- The states of inputs after a call: as before, unless it was refused; and Device is returned if one of them failed, else no
-- count has changed.
abbrev pub AllStand : {X : Type 0} → List Standing → List Standing → Result X Refusal → Type 0
AllStand was now (Ok x) = now ≡ was
AllStand was now (Err why) = (why ≡ Device → HasFailed was now) × (why ≢ Device → map (λ input. input.failures) now ≡ map (λ input. input.failures) was)

-- the inputs, and the first entries that were drawn from them, keep to these points
pub record AreWithin {S : Type 0} (within : S → (ℕ → Bool) → Type 0) (points : ℕ → Bool) (inputs : List S) (firsts : List (Option Triple)) : Type 0 where
  pub to_come : All (λ input. within input points) inputs
  pub drawn : (place : ℕ) → IsWithin points (first_entry_at firsts place)

-- if all keep to some points, an entry that is given does, and all keep to them then
abbrev pub AllGiveWithin : {S : Type 0} → (S → (ℕ → Bool) → Type 0) → List S → List (Option Triple) → List S → List (Option Triple) → Result (Option Triple) Refusal → Type 0
AllGiveWithin within inputs firsts inputs_now firsts_now (Ok next) = (points : ℕ → Bool) → AreWithin within points inputs firsts → IsWithin points next × AreWithin within points inputs_now firsts_now
AllGiveWithin within inputs firsts inputs_now firsts_now (Err why) = ⊤
