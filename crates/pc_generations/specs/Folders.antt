-- The contents of the folders of generations, which generation counts, and how the next one begins. `stands n name (Some text)` says
-- that the folder of generation n has this text under the name, and `stands n name None` that it has nothing there.
use Rattle.std.specs.Prelude.{◌≢◌, ◌⊎◌, ◌+◌, ◌<◌, ◌≤◌, ℕ, List, Option, Some, None, length}
use Rattle.pc_generations.specs.Names.{base_name, log_name}

-- a generation counts if its base is there
abbrev pub HasBase : (ℕ → List ℕ → Option (List ℕ) → Type 0) → ℕ → Type 0
HasBase stands number = (text : List ℕ) × stands number base_name (Some text)

-- no generation above this one has a base
abbrev pub IsGreatest : (ℕ → List ℕ → Option (List ℕ) → Type 0) → ℕ → Type 0
IsGreatest stands number = (other : ℕ) → number < other → stands other base_name None

-- the generation that counts: the greatest one that has a base; or none has
abbrev pub IsLatest : (ℕ → List ℕ → Option (List ℕ) → Type 0) → Option ℕ → Type 0
IsLatest stands (Some number) = HasBase stands number × IsGreatest stands number
IsLatest stands None = (number : ℕ) → stands number base_name None

-- the number of the generation after the one that counts
abbrev pub next_of : Option ℕ → ℕ
next_of (Some number) = number + 1
next_of None = 1

-- the log of the generation has entries: bytes after the 20 of its header
abbrev pub HasLoggedEntries : (ℕ → List ℕ → Option (List ℕ) → Type 0) → ℕ → Type 0
HasLoggedEntries stands number = (text : List ℕ) × stands number log_name (Some text) × (20 < length text)

-- it has no log, or one without entries
abbrev pub HasNoLoggedEntries : (ℕ → List ℕ → Option (List ℕ) → Type 0) → ℕ → Type 0
HasNoLoggedEntries stands number = stands number log_name None ⊎ ((text : List ℕ) × stands number log_name (Some text) × (length text ≤ 20))

-- nothing of the generation was ever answered: it has neither a base nor entries
abbrev pub IsUnused : (ℕ → List ℕ → Option (List ℕ) → Type 0) → ℕ → Type 0
IsUnused stands number = stands number base_name None × HasNoLoggedEntries stands number

-- everything in the folder of this generation is still there
abbrev pub StaysAt : (ℕ → List ℕ → Option (List ℕ) → Type 0) → (ℕ → List ℕ → Option (List ℕ) → Type 0) → ℕ → Type 0
StaysAt old new number = (name : List ℕ) (content : Option (List ℕ)) → old number name content → new number name content

-- a generation that was used is as it was
abbrev pub IsSpared : (ℕ → List ℕ → Option (List ℕ) → Type 0) → (ℕ → List ℕ → Option (List ℕ) → Type 0) → ℕ → Type 0
IsSpared old new number = ¬ IsUnused old number → StaysAt old new number

-- everything in the folders of all generations but this one is still there
abbrev pub StayBut : (ℕ → List ℕ → Option (List ℕ) → Type 0) → (ℕ → List ℕ → Option (List ℕ) → Type 0) → ℕ → Type 0
StayBut old new number = (other : ℕ) → other ≢ number → StaysAt old new other

-- nothing has come to the folder of this generation under a name that had no file
abbrev pub NothingComes : (ℕ → List ℕ → Option (List ℕ) → Type 0) → (ℕ → List ℕ → Option (List ℕ) → Type 0) → ℕ → Type 0
NothingComes old new number = (name : List ℕ) → old number name None → new number name None

-- but for this name in the folder of this generation all is as it was
abbrev pub StaysBeside : (ℕ → List ℕ → Option (List ℕ) → Type 0) → (ℕ → List ℕ → Option (List ℕ) → Type 0) → ℕ → List ℕ → Type 0
StaysBeside old new number name = StayBut old new number × ((other : List ℕ) (content : Option (List ℕ)) → other ≢ name → old number other content → new number other content)

-- The folder of this generation has this base and this log, and nothing else.
pub record IsWhole (stands : ℕ → List ℕ → Option (List ℕ) → Type 0) (number : ℕ) (base log : List ℕ) : Type 0 where
  pub base_is : stands number base_name (Some base)
  pub log_is : stands number log_name (Some log)
  pub alone : (name : List ℕ) → name ≢ base_name → name ≢ log_name → stands number name None

-- it has this log, and nothing else
abbrev pub IsLogged : (ℕ → List ℕ → Option (List ℕ) → Type 0) → ℕ → List ℕ → Type 0
IsLogged stands number log = stands number log_name (Some log) × ((name : List ℕ) → name ≢ log_name → stands number name None)

-- it counts, with these files
abbrev pub IsCurrentGeneration : (ℕ → List ℕ → Option (List ℕ) → Type 0) → ℕ → List ℕ → List ℕ → Type 0
IsCurrentGeneration stands number base log = IsWhole stands number base log × IsGreatest stands number

-- but for those whose numbers are lower by more than `keep` than this one, all generations are as they were
abbrev pub KeepsLast : ℕ → (ℕ → List ℕ → Option (List ℕ) → Type 0) → (ℕ → List ℕ → Option (List ℕ) → Type 0) → ℕ → Type 0
KeepsLast keep old new number = (other : ℕ) → number ≤ other + keep → StaysAt old new other

-- and of those nothing is left
abbrev pub AreGone : ℕ → (ℕ → List ℕ → Option (List ℕ) → Type 0) → ℕ → Type 0
AreGone keep stands number = (older : ℕ) → older + keep < number → (name : List ℕ) → stands older name None

-- no generation has begun: the one that counted counts, and of it and all before it nothing is gone
abbrev pub IsUnbegun : (ℕ → List ℕ → Option (List ℕ) → Type 0) → (ℕ → List ℕ → Option (List ℕ) → Type 0) → Option ℕ → Type 0
IsUnbegun old new latest = IsLatest new latest × ((number : ℕ) → number < next_of latest → StaysAt old new number)
