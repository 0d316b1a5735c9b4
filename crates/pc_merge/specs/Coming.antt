-- The future of a stream of entries.
use Rattle.std.specs.Prelude.{◌≡◌, ◌≢◌, ◌⊎◌, ℕ, Bool, IsTrue, List, [], ◌∷◌, Option, Some, None, Result, Ok, Err, ⊤}
use Rattle.pc_io.specs.Counted.{HasRisen}
use Rattle.pc_types.specs.declared.Refusal.{Refusal}
use Rattle.pc_types.specs.declared.Refusal.TheVariants.{OutOfMemory, Device}
use Rattle.pc_types.specs.declared.Triple.{Triple}

-- entries, in order, and then the end, or a refusal that is answered from then on
pub record Coming : Type 0 where
  pub entries : List Triple
  pub fault : Option Refusal

-- the end
abbrev pub ended : Coming
ended = record { entries = []; fault = None }

-- a refusal
abbrev pub refused : Refusal → Coming
refused why = record { entries = []; fault = Some why }

-- an entry before what comes after it
abbrev pub after_entry : Triple → Coming → Coming
after_entry entry behind = record { entries = entry ∷ behind.entries; fault = behind.fault }

-- The answer to one call of what was to come: its first entry, its end or its refusal; or memory or a device failed. What is to come
-- then is the rest.
abbrev pub GivesKnown : Coming → Option Coming → Result (Option Triple) Refusal → Type 0
GivesKnown was None (Ok x) = ⊥
GivesKnown was (Some now) (Ok None) = (was ≡ ended) × (now ≡ ended)
GivesKnown was (Some now) (Ok (Some entry)) = was ≡ after_entry entry now
GivesKnown was now (Err why) = (was ≡ refused why) ⊎ (why ≡ OutOfMemory) ⊎ (why ≡ Device)

-- the same if it may not be known
abbrev pub GivesNext : Option Coming → Option Coming → Result (Option Triple) Refusal → Type 0
GivesNext None now result = ⊤
GivesNext (Some was) now result = GivesKnown was now result

-- what a stream refused, and how many calls of its device failed
pub record Standing : Type 0 where
  pub refused : Option Refusal
  pub failures : ℕ

-- failures are counted: Device is returned if the count increased, and otherwise the count stays
abbrev pub IsFailureCounted : ℕ → ℕ → Refusal → Type 0
IsFailureCounted was now why = (why ≡ Device → HasRisen was now) × (why ≢ Device → now ≡ was)

-- If a call was refused, each later call is refused so, and nothing is read. Otherwise a refusal is kept.
abbrev pub StandsBy : {X : Type 0} → Option Refusal → Standing → Standing → Result X Refusal → Type 0
StandsBy (Some why) was now result = (result ≡ Err why) × (now ≡ was)
StandsBy None was now (Ok x) = now ≡ was
StandsBy None was now (Err why) = (now.refused ≡ Some why) × IsFailureCounted was.failures now.failures why

-- the same of a stream as it was
abbrev pub KeepsRefusal : {X : Type 0} → Standing → Standing → Result X Refusal → Type 0
KeepsRefusal was now result = StandsBy was.refused was now result

-- an entry, if there is one, is of one of the points
abbrev pub IsWithin : (ℕ → Bool) → Option Triple → Type 0
IsWithin points None = ⊤
IsWithin points (Some entry) = IsTrue (points entry.point)

-- if all that was to come is of these points, so is the entry that is given, and what is to come then
abbrev pub GivesWithin : {S : Type 0} → (S → (ℕ → Bool) → Type 0) → S → S → Result (Option Triple) Refusal → Type 0
GivesWithin within was now (Ok next) = (points : ℕ → Bool) → within was points → IsWithin points next × within now points
GivesWithin within was now (Err why) = ⊤
