-- The rule of a store's word, and the facts that the steps on it give. Its seats are the keeper's, which knows the whole
-- history; that of the checkpointer with the number 0, those of sessions with theirs, and those of witnesses, which know a
-- prefix; and such as are gone.
use Rattle.std.specs.Prelude.{◌≡◌, ◌≢◌, ℕ, ◌+◌, ◌<◌, ◌≤◌, cond, List, [], ◌∷◌, length}
use mathlib.Core.Option.{Option, none, some}
use lib.ListN.{get_elem?}
use Rattle.atomic_table.specs.Table.{State, Me, Step as Exchange}
use Rattle.pc_types.specs.declared.Step.{Step}
use Rattle.pc_model.specs.History.{History, log_of}
use Rattle.pc_model.specs.Replies.{Setting, IsLegalHistory}
use Rattle.pc_model.specs.Calls.{counts, session_of, calls_of, IsBeginning}
use Rattle.pc_tie.specs.declared.sight.Sitting.{Sitting}
use Rattle.pc_tie.specs.declared.sight.Sight.{Sight}
use Rattle.pc_tie.specs.declared.sight.Sight.TheVariants.{Whole, Front, Beside, Gone}

-- the number of a witness's seat, past those of all sessions
abbrev pub a_witness : ℕ
a_witness = 65

-- the seat of this number speaks for a session, or for the checkpointer: it is no witness's
abbrev pub Speaks : ℕ → Type 0
Speaks n = n ≢ a_witness

-- a seat's number, and the history that it has seen
abbrev pub sitting : ℕ → History → Sitting
sitting n seen = record { number = n; seen = seen }

-- the history that a seat has seen
abbrev pub hist_of : Sight → History
hist_of (Whole hist dealt guests) = hist
hist_of (Front n seen) = seen
hist_of (Beside n seen other) = seen
hist_of Gone = []

-- how many seats the keeper has dealt, the checkpointer's first, or 0
abbrev pub dealt_of : Sight → ℕ
dealt_of (Whole hist dealt guests) = dealt
dealt_of (Front n seen) = 0
dealt_of (Beside n seen other) = 0
dealt_of Gone = 0

-- the seats that the keeper has taken in, the last one first
abbrev pub guests_of : Sight → List Sitting
guests_of (Whole hist dealt guests) = guests
guests_of (Front n seen) = []
guests_of (Beside n seen other) = []
guests_of Gone = []

-- the number of the seat; the keeper counts as a witness here
abbrev pub sight_number : Sight → ℕ
sight_number (Whole hist dealt guests) = a_witness
sight_number (Front n seen) = n
sight_number (Beside n seen other) = n
sight_number Gone = a_witness

-- what the seat of a badge has seen
abbrev pub seen_by_seat : List Sight → History
seen_by_seat [] = []
seen_by_seat (v ∷ vs) = hist_of v

-- how many seats it has dealt
abbrev pub dealt_in : List Sight → ℕ
dealt_in [] = 0
dealt_in (v ∷ vs) = dealt_of v

-- what is seen is a prefix of the history; and if n is no witness's number, it was dealt, the seat owns it, and has seen all of
-- its calls
abbrev pub Knows : History → ℕ → (ℕ → ℕ) → ℕ → ℕ → History → Type 0
Knows history dealt owner id n seen = IsBeginning seen history × (Speaks n → (n < dealt) × (owner n ≡ id) × (calls_of n history ≡ calls_of n seen))

-- no seat but a witness's was taken in twice
abbrev pub AreGuestsApart : List Sitting → Type 0
AreGuestsApart guests = (i j : ℕ) (x y : Sitting) → get_elem? guests i ≡ some x → get_elem? guests j ≡ some y → Speaks x.number → x.number ≡ y.number → i ≡ j

-- what a seat knows fits the history
abbrev pub FitsSeat : History → ℕ → ℕ → (ℕ → ℕ) → ℕ → Sight → Type 0
FitsSeat history keeper dealt owner id (Whole hist g guests) = (id ≡ keeper) × (hist ≡ history) × (g ≡ dealt) × ((k : ℕ) (x : Sitting) → get_elem? guests k ≡ some x → Knows history dealt owner id x.number x.seen) × AreGuestsApart guests
FitsSeat history keeper dealt owner id (Front n seen) = Knows history dealt owner id n seen
FitsSeat history keeper dealt owner id (Beside n seen other) = Knows history dealt owner id n seen × IsBeginning other history
FitsSeat history keeper dealt owner id Gone = Unit {0}

-- There is one legal history, which the keeper knows whole. The word is the number of entries of its log. Each number but the
-- witnesses' has an owner among the seats, the keeper until it is dealt, and what each seat knows fits.
pub record HasOneHistory {S : Type 0} (st : Setting) (s : State S Sight) : Type 0 where
  pub history : History
  pub keeper : ℕ
  pub dealt : ℕ
  pub owner : ℕ → ℕ
  pub legal : IsLegalHistory st history
  pub words : s.words ≡ length (log_of history) ∷ []
  pub spare : (n : ℕ) → dealt ≤ n → Speaks n → owner n ≡ keeper
  pub each : (id : ℕ) (v : Sight) → get_elem? s.views id ≡ some v → FitsSeat history keeper dealt owner id v

-- what a seat has seen after its step: one that doesn't count leaves it
abbrev pub sight_after : Step → History → History → History
sight_after c hist seen = cond (counts c.reply) (c ∷ hist) seen

-- the seat that is taken in, after a step
abbrev pub guests_after : Step → History → List Sitting → List Sitting
guests_after c hist [] = []
guests_after c hist (x ∷ xs) = sitting x.number (sight_after c hist x.seen) ∷ []

-- the step that is said, as it is
abbrev pub said_step : Step → Step
said_step s = s

-- a fact of the step that is said, if one is
abbrev pub told : Option Step → (Step → Type 0) → Type 0
told none P = Unit {0}
told (some s) P = P (said_step s)

-- the first seat that was taken in knew a prefix of the history, and all calls of its number if it is no witness's
abbrev pub KnewFirst : History → List Sitting → Type 0
KnewFirst hist [] = Unit {0}
KnewFirst hist (x ∷ xs) = IsBeginning x.seen hist × (Speaks x.number → calls_of x.number hist ≡ calls_of x.number x.seen)

-- the keeper adds the step that is said to the history
abbrev pub Applied : Exchange Step → Me Step Sight → ℕ → Me Step Sight → Type 0
Applied st v found w = told st.said (λ c. (w ≡ (Whole (c ∷ hist_of v.0) (dealt_of v.0) (guests_after c (hist_of v.0) (guests_of v.0)), v.1)) × KnewFirst (hist_of v.0) (guests_of v.0))

-- a seat is taken in
abbrev pub with_guest : Sight → Sight → Sight
with_guest v w = Whole (hist_of v) (dealt_of v) (sitting (sight_number w) (hist_of w) ∷ guests_of v)

-- all but the first
abbrev pub other_guests : List Sitting → List Sitting
other_guests [] = []
other_guests (x ∷ xs) = xs

-- the keeper without the seat that it took in last
abbrev pub parted : Sight → Sight
parted v = Whole (hist_of v) (dealt_of v) (other_guests (guests_of v))

-- the keeper without the seats that it took in
abbrev pub emptied : Sight → Sight
emptied v = Whole (hist_of v) (dealt_of v) []

-- the first of them, as a seat of its own
abbrev pub first_out : List Sitting → Sight
first_out [] = Gone
first_out (x ∷ xs) = Front x.number x.seen

-- the seat that was taken in last
abbrev pub left_out : Sight → Sight
left_out v = first_out (guests_of v)

-- the step is that of the one seat that was taken in, which is no witness's
abbrev pub IsStepOfGuest : Step → List Sitting → Type 0
IsStepOfGuest c [] = ⊥
IsStepOfGuest c (x ∷ []) = Speaks x.number × (session_of c.event ≡ x.number)
IsStepOfGuest c (x ∷ y ∷ ys) = ⊥

-- the next seat is dealt
abbrev pub after_dealing : Sight → Sight
after_dealing v = Whole (hist_of v) (dealt_of v + 1) (guests_of v)

-- the seat that is dealt, which has seen nothing
abbrev pub new_front : Sight → Sight
new_front v = Front (dealt_of v) []

-- each seat that was taken in had seen a prefix of the history, with all calls of its number if it is no witness's; and none
-- but a witness's is there twice
abbrev pub AreTold : History → List Sitting → Type 0
AreTold hist guests = ((k : ℕ) (x : Sitting) → get_elem? guests k ≡ some x → IsBeginning x.seen hist × (Speaks x.number → calls_of x.number hist ≡ calls_of x.number x.seen)) × AreGuestsApart guests

-- the result of comparing the seats that were taken in; it changes nothing
abbrev pub Compared : Exchange Step → Me Step Sight → ℕ → Me Step Sight → Type 0
Compared st v found w = (w ≡ v) × AreTold (hist_of v.0) (guests_of v.0)

-- a witness's seat, which has seen the whole history
abbrev pub shown_out : Sight → Sight
shown_out v = Front a_witness (hist_of v)

-- the view of the witness that is compared with the seat
abbrev pub other_of : Sight → History
other_of (Whole hist dealt guests) = []
other_of (Front n seen) = []
other_of (Beside n seen other) = other
other_of Gone = []

-- a seat that is compared with a witness
abbrev pub beside : Sight → Sight → Sight
beside v w = Beside (sight_number v) (hist_of v) (hist_of w)

-- the seat by itself again
abbrev pub alone : Sight → Sight
alone v = Front (sight_number v) (hist_of v)

-- and the witness's
abbrev pub witness_out : Sight → Sight
witness_out v = Front a_witness (other_of v)

-- both are prefixes of one history
abbrev pub AreOfOne : History → History → Type 0
AreOfOne seen other = (history : History) × IsBeginning seen history × IsBeginning other history

-- the result of comparing a seat with a witness; it changes nothing
abbrev pub Met : Exchange Step → Me Step Sight → ℕ → Me Step Sight → Type 0
Met st v found w = (w ≡ v) × AreOfOne (hist_of v.0) (other_of v.0)
