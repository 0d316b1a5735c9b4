-- The next entry of a merge, and the rest of its inputs after it.
use Rattle.std.specs.Prelude.{◌≡◌, ◌⊎◌, ◌<◌, ℕ, List, [], ◌∷◌, Option, Some, None, Result, Ok, Err, map, slice_get, if◌then◌else◌, ⊤}
use Rattle.std.specs.List.{All, Contains}
use Rattle.std.specs.declared.cmp.Ordering.TheVariants.{Less}
use Rattle.pc_types.specs.declared.Refusal.{Refusal}
use Rattle.pc_types.specs.declared.Refusal.TheVariants.{OutOfMemory, Device, Conflict, KeyOrder}
use Rattle.pc_types.specs.declared.Triple.{Triple}
use Rattle.pc_model.specs.Database.{KeysRise, key_cmp, same_bytes}
use Rattle.pc_model.specs.TripleLists.{map_entries}
use Rattle.pc_merge.specs.Coming.{Coming, ended}
use Rattle.pc_merge.specs.Tournaments.{first_entry_at}

-- a merge: the first entry that was drawn of each input, if there is one, and the refusal that was answered
pub record Merging : Type 0 where
  pub firsts : List (Option Triple)
  pub refused : Option Refusal

-- the first entry to come
abbrev pub first_to_come : Coming → Option Triple
first_to_come input = slice_get input.entries 0

-- the first entry of each input
abbrev pub firsts_of : List Coming → List (Option Triple)
firsts_of inputs = map first_to_come inputs

-- the entries without the first one if that is of the key
abbrev pub entries_behind : List ℕ → List Triple → List Triple
entries_behind key [] = []
entries_behind key (entry ∷ entries) = if same_bytes entry.key key then entries else entry ∷ entries

-- what comes after the key in an input that begins with it or after it
abbrev pub input_after_key : List ℕ → Coming → Coming
input_after_key key input = record { entries = entries_behind key input.entries; fault = input.fault }

-- the same of each input
abbrev pub all_behind : List ℕ → List Coming → List Coming
all_behind key inputs = map (input_after_key key) inputs

-- the key is less than that of the entry, if there is one
abbrev pub IsBelow : List ℕ → Option Triple → Type 0
IsBelow key None = ⊤
IsBelow key (Some entry) = key_cmp key entry.key ≡ Less

-- an entry is newer than another one of its key, or the same
abbrev pub IsNewest : Triple → Triple → Type 0
IsNewest entry other = (other.point < entry.point) ⊎ (other ≡ entry)

-- another entry, if there is one, is of a greater key, or of this one's key and older, or this one
abbrev pub IsBest : Triple → Option Triple → Type 0
IsBest entry None = ⊤
IsBest entry (Some other) = (key_cmp entry.key other.key ≡ Less) ⊎ ((entry.key ≡ other.key) × IsNewest entry other)

-- The entry is what a merge of these inputs gives next: one of their first entries, and the best of them; what comes after it is of
-- greater keys.
pub record GivesFirst (inputs : List Coming) (entry : Triple) : Type 0 where
  pub of : Contains (firsts_of inputs) (Some entry)
  pub best : All (IsBest entry) (firsts_of inputs)
  pub rises : All (IsBelow entry.key) (firsts_of (all_behind entry.key inputs))

-- each input has ended
abbrev pub AreEnded : List Coming → Type 0
AreEnded inputs = All (λ input. input ≡ ended) inputs

-- one of the inputs ends in the refusal
abbrev pub HasFault : List Coming → Refusal → Type 0
HasFault inputs why = (input : Coming) × Contains inputs input × (input.fault ≡ Some why)

-- two entries of the inputs have one key and point and different contents
pub record HaveConflict (inputs : List Coming) : Type 0 where
  pub one : Coming
  pub other : Coming
  pub one_among : Contains inputs one
  pub other_among : Contains inputs other
  pub entry : Triple
  pub second : Triple
  pub entry_among : Contains one.entries entry
  pub second_among : Contains other.entries second
  pub key : entry.key ≡ second.key
  pub point : entry.point ≡ second.point
  pub differ : entry.content ≡ second.content → ⊥

-- the keys of one of the inputs don't ascend
abbrev pub HasNoOrder : List Coming → Type 0
HasNoOrder inputs = (input : Coming) × Contains inputs input × (KeysRise (map_entries input.entries) → ⊥)

-- why a merge of these inputs may be refused: memory or a device failed, an input ends in that refusal, two conflict, or the keys
-- of one don't ascend
abbrev pub IsCause : List Coming → Refusal → Type 0
IsCause inputs why =
    (why ≡ OutOfMemory) ⊎ (why ≡ Device) ⊎ HasFault inputs why ⊎ ((why ≡ Conflict) × HaveConflict inputs) ⊎ ((why ≡ KeyOrder) × HasNoOrder inputs)

-- what a merge may refuse, whether it is known what is to come or not: what its inputs may, and a conflict or keys that don't
-- ascend
abbrev pub IsMergeRefusal : (Refusal → Type 0) → Refusal → Type 0
IsMergeRefusal refusals why = (why ≡ Conflict) ⊎ (why ≡ KeyOrder) ⊎ refusals why

-- The answer to one call if it is known what was left: the next entry, of whose key then nothing is left; `None` if all inputs had
-- ended; or a refusal for a cause.
abbrev pub MergesNext : Option (List Coming) → Option (List Coming) → Result (Option Triple) Refusal → Type 0
MergesNext None now result = ⊤
MergesNext (Some was) now (Ok None) = AreEnded was × (now ≡ Some was)
MergesNext (Some was) now (Ok (Some entry)) = GivesFirst was entry × (now ≡ Some (all_behind entry.key was))
MergesNext (Some was) now (Err why) = IsCause was why

-- the key is less than each of those that come first
abbrev pub AreAbove : List ℕ → List (Option Triple) → Type 0
AreAbove key firsts = (place : ℕ) → IsBelow key (first_entry_at firsts place)

-- The keys ascend: if all that come first are above a key, an entry that is given is; and then all that come first are above it.
abbrev pub KeysGoOn : List (Option Triple) → List (Option Triple) → Result (Option Triple) Refusal → Type 0
KeysGoOn was now (Ok (Some entry)) = ((last : List ℕ) → AreAbove last was → key_cmp last entry.key ≡ Less) × AreAbove entry.key now
KeysGoOn was now result = ⊤

-- if a merge was refused, each later call is refused so
abbrev pub MergeRefuses : {X : Type 0} → Option Refusal → Option Refusal → Result X Refusal → Type 0
MergeRefuses (Some why) now result = (result ≡ Err why) × (now ≡ Some why)
MergeRefuses None now (Ok x) = now ≡ None
MergeRefuses None now (Err why) = now ≡ Some why
