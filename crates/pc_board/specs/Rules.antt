-- The rule of the board's two words, and the facts that the steps on them give.
use Rattle.std.specs.Prelude.{◌≡◌, ℕ, ◌+◌, ◌<◌, ◌≤◌, List, [], ◌∷◌, ◌++◌, All}
use mathlib.Core.List.{IsPrefix}
use mathlib.Core.Option.{some}
use lib.ListN.{get_elem?}
use Rattle.pc_types.specs.declared.limits.TheConstants.{MOST_CLAIMS, MOST_PASSES, MOST_POINTS}
use Rattle.atomic_table.specs.Table.{State, Me, Step}
use Rattle.pc_board.specs.declared.calls.CallKind.TheVariants.{Claim, Publish, Look}
use Rattle.pc_board.specs.declared.calls.Call.{Call}
use Rattle.pc_board.specs.declared.sight.Account.{Account}
use Rattle.pc_board.specs.declared.sight.PassSight.{PassSight}
use Rattle.pc_board.specs.declared.sight.PassSight.TheVariants.{Dealer, Holder, Closer, Nobody}
use Rattle.pc_board.specs.Calls.{call, calls_by, claims_of, greatest_of, AreLegalCalls}
use Rattle.pc_board.specs.Passes.{EndsWithCall}

-- the number of the pass, or 0
abbrev pub pass_number : PassSight → ℕ
pass_number (Dealer next) = 0
pass_number (Holder number seen) = number
pass_number (Closer accounts) = 0
pass_number Nobody = 0

-- the calls that the pass has seen, or none
abbrev pub seen_of : PassSight → List Call
seen_of (Dealer next) = []
seen_of (Holder number seen) = seen
seen_of (Closer accounts) = []
seen_of Nobody = []

-- the seat speaks for the pass of this number, all of whose calls have been seen
abbrev pub SpeaksFor : List Call → (ℕ → ℕ) → ℕ → ℕ → List Call → Type 0
SpeaksFor history owner seat number seen = (owner number ≡ seat) × IsPrefix seen history × (calls_by number history ≡ calls_by number seen)

module _ (passes : ℕ) (history : List Call) (owner : ℕ → ℕ) (seat : ℕ) where
  -- what a seat knows fits the history
  abbrev pub FitsPass : PassSight → Type 0
  FitsPass (Dealer next) = (number : ℕ) → next ≤ number → number < passes → (owner number ≡ seat) × (calls_by number history ≡ [])
  FitsPass (Holder number seen) = (number < passes) × SpeaksFor history owner seat number seen
  FitsPass (Closer accounts) = (k : ℕ) (account : Account) → get_elem? accounts k ≡ some account → SpeaksFor history owner seat account.by account.seen
  FitsPass Nobody = Unit {0}

-- There is one legal history of calls by the passes. The words are its count of claims and its greatest point; each pass
-- has an owner among the seats, and what each seat knows fits
pub record HasOneCallHistory {S : Type 0} (passes : ℕ) (state : State S PassSight) : Type 0 where
  pub history : List Call
  pub owner : ℕ → ℕ
  pub legal : AreLegalCalls history
  pub words : state.words ≡ claims_of history ∷ greatest_of history ∷ []
  pub most_passes : passes ≤ MOST_PASSES
  pub most_claims : (number : ℕ) → claims_of (calls_by number history) ≤ MOST_CLAIMS
  pub most_points : greatest_of history ≤ MOST_POINTS
  pub ours : All (λ (call : Call). call.by < passes) history
  pub each : (seat : ℕ) (sight : PassSight) → get_elem? state.views seat ≡ some sight → FitsPass passes history owner seat sight

-- the pass at the seat has made the call, and has seen a legal history up to it
abbrev pub Makes : {S : Type 0} → Call → Me S PassSight → Me S PassSight → Type 0
Makes {S} call before after = (seen : List Call) × (after ≡ (Holder call.by seen, before.1)) × AreLegalCalls seen × EndsWithCall (seen_of before.0) call seen

-- a claim gives the number found
abbrev pub Claims : {S : Type 0} → Step S → Me S PassSight → ℕ → Me S PassSight → Type 0
Claims step before found after = Makes (call (pass_number before.0) Claim found) before after

-- a publication is of the operand
abbrev pub Publishes : {S : Type 0} → Step S → Me S PassSight → ℕ → Me S PassSight → Type 0
Publishes step before found after = Makes (call (pass_number before.0) Publish step.first) before after

-- a look gives the number found, which is a point or 0
abbrev pub Looks : {S : Type 0} → Step S → Me S PassSight → ℕ → Me S PassSight → Type 0
Looks step before found after = Makes (call (pass_number before.0) Look found) before after × (found ≤ MOST_POINTS)

-- the dealer has given out the next pass
abbrev pub dealer_after : PassSight → PassSight
dealer_after (Dealer next) = Dealer (next + 1)
dealer_after (Holder number seen) = Nobody
dealer_after (Closer accounts) = Nobody
dealer_after Nobody = Nobody

-- the pass that is dealt
abbrev pub next_holder : PassSight → PassSight
next_holder (Dealer next) = Holder next []
next_holder (Holder number seen) = Nobody
next_holder (Closer accounts) = Nobody
next_holder Nobody = Nobody

abbrev pub account : ℕ → List Call → Account
account number seen = record { by = number; seen = seen }

abbrev pub accounts_of : PassSight → List Account
accounts_of (Dealer next) = []
accounts_of (Holder number seen) = []
accounts_of (Closer accounts) = accounts
accounts_of Nobody = []

-- the closer, with the pass that was handed in
abbrev pub closer_after : PassSight → PassSight → PassSight
closer_after closer pass = Closer (accounts_of closer ++ account (pass_number pass) (seen_of pass) ∷ [])
