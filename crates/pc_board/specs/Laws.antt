-- The consequences of a legal history for callers.
use Rattle.std.specs.Prelude.{◌≡◌, ◌⊎◌, ◌<◌, ◌≤◌, List, ◌∷◌, ◌++◌}
use Rattle.pc_board.specs.declared.calls.CallKind.TheVariants.{Claim, Publish, Look}
use Rattle.pc_board.specs.declared.calls.Call.{Call}
use Rattle.pc_board.specs.Calls.{AreLegalCalls}

-- the two calls are among the calls in this order
abbrev pub StandIn : List Call → Call → Call → Type 0
StandIn calls earlier later = (before : List Call) × (between : List Call) × (after : List Call) × (calls ≡ before ++ earlier ∷ (between ++ later ∷ after))

-- of two claims the later one gave the greater number
abbrev pub ClaimsRise : Type 0
ClaimsRise = (calls : List Call) (earlier later : Call) → AreLegalCalls calls → StandIn calls earlier later → earlier.kind ≡ Claim → later.kind ≡ Claim → earlier.value < later.value

-- a look gives no less than what was published or seen before it
abbrev pub LooksNeverFall : Type 0
LooksNeverFall =
    (calls : List Call) (earlier later : Call) → AreLegalCalls calls → StandIn calls earlier later → (earlier.kind ≡ Publish) ⊎ (earlier.kind ≡ Look) → later.kind ≡ Look →
    earlier.value ≤ later.value
