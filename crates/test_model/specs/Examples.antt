-- The words of the worked examples: steps, settings, keys and values, and what is said of a history.
use Rattle.std.specs.Prelude.{◌≡◌, ℕ, List, [], ◌∷◌, Option, Some, None, map, reverse}
use Rattle.pc_types.specs.Keys.{key_of}
use Rattle.pc_types.specs.declared.Event.{Event}
use Rattle.pc_types.specs.declared.Reply.{Reply}
use Rattle.pc_types.specs.declared.Step.{Step}
use Rattle.pc_types.specs.declared.Entry.{Entry}
use Rattle.pc_model.specs.Maps as map_of
use Rattle.pc_model.specs.Sets as set
use Rattle.pc_model.specs.Log.{state_at}
use Rattle.pc_model.specs.History.{log_of, contents}
use Rattle.pc_model.specs.Points.{AtPoint}
use Rattle.pc_model.specs.Files.{File, BaseFile, shelf, file_at}
use Rattle.pc_model.specs.Standing.{file_of_points}
use Rattle.pc_model.specs.LaidFiles.{gap_above, laid_file}
use Rattle.pc_model.specs.Replies.{Setting, IsLegal, IsLegalHistory}
use Rattle.pc_model.specs.Quiet.{IsQuiet}

-- a step of a history, which the examples list from the first to the last
abbrev pub step : Event → Reply → Step
step event reply = record { event = event; reply = reply }

-- the plain setting: run 1, no pairs, 8 sessions, room for 1024 keys
abbrev pub plain : Setting
plain = record { run = 1; base = map_of.empty; sessions = 8; capacity = 1024 }

-- the setting whose base has this pair too
abbrev pub holding : List ℕ → List ℕ → Setting → Setting
holding key value st = record st { base = map_of.insert st.base key value }

-- the setting with room for that many keys
abbrev pub with_room_for : ℕ → Setting → Setting
with_room_for count st = record st { capacity = count }

-- the setting with that many sessions
abbrev pub with_sessions : ℕ → Setting → Setting
with_sessions count st = record st { sessions = count }

-- an entry of a file: at the point the key has the value
abbrev pub has : List ℕ → ℕ → List ℕ → List ℕ × AtPoint
has key point value = (key, record { point = point; content = Some value })

-- an entry of a file: at the point the key has none, a tombstone
abbrev pub lacks : List ℕ → ℕ → List ℕ × AtPoint
lacks key point = (key, record { point = point; content = None })

-- a file as its points and its entries, each ascending
abbrev pub listed : File → List ℕ × List (List ℕ × AtPoint)
listed file = (set.items file.points, file.triples.entries)

-- the files on the shelf after the steps
abbrev pub files_shelved : Setting → List Step → List (List ℕ × List (List ℕ × AtPoint))
files_shelved st steps = map listed (shelf st.run (reverse steps))

-- the files of the same points, read off the log
abbrev pub files_by_log : Setting → List Step → List (List ℕ × List (List ℕ × AtPoint))
files_by_log st steps = map (λ file. listed (file_of_points st.run st.base (log_of (reverse steps)) file.points)) (shelf st.run (reverse steps))

-- the file of this number after the steps
abbrev pub file_after : Setting → List Step → ℕ → Option File
file_after st steps number = file_at (shelf st.run (reverse steps)) number

-- The steps are a legal history. Its files are these, by the replies and by the log alone, and it leaves these pairs.
pub record RunsTo (st : Setting) (steps : List Step) (files : List (List ℕ × List (List ℕ × AtPoint))) (pairs : List (List ℕ × List ℕ)) : Type 0 where
  pub legal : IsLegalHistory st (reverse steps)
  pub by_replies : files_shelved st steps ≡ files
  pub by_log : files_by_log st steps ≡ files
  pub leaves : (contents st.base (reverse steps)).entries ≡ pairs

-- the first point above the base's that the file doesn't cover
abbrev pub gap_of : Option File → Option ℕ
gap_of None = None
gap_of (Some file) = gap_above 0 file.points

-- the base of a setting
abbrev pub base_of : Setting → BaseFile
base_of st = record { run = st.run; point = 0; pairs = st.base }

-- the file applied to the base, as a point and pairs
abbrev pub laid_from : Setting → Option File → Option (ℕ × List (List ℕ × List ℕ))
laid_from st None = None
laid_from st (Some file) = Some ((laid_file (base_of st) file).point, (laid_file (base_of st) file).pairs.entries)

-- The file of this number has no gap. Laid on the base it gives this point and these pairs, which are the point's state.
pub record LaysTo (st : Setting) (steps : List Step) (number point : ℕ) (pairs : List (List ℕ × List ℕ)) : Type 0 where
  pub covers : gap_of (file_after st steps number) ≡ None
  pub gives : laid_from st (file_after st steps number) ≡ Some (point, pairs)
  pub replayed : (state_at st.base (log_of (reverse steps)) point).entries ≡ pairs

-- the file of this number lacks this point first
abbrev pub Lacks : Setting → List Step → ℕ → ℕ → Type 0
Lacks st steps number point = gap_of (file_after st steps number) ≡ Some point

-- the log after the steps has these entries
abbrev pub HasLog : List Step → List Entry → Type 0
HasLog steps entries = log_of (reverse steps) ≡ entries

-- outside rest no transaction was ever active
abbrev pub IsQuietRun : Setting → List Step → Type 0
IsQuietRun st steps = IsQuiet st (reverse steps)

-- outside rest some transaction was active
abbrev pub IsNoQuietRun : Setting → List Step → Type 0
IsNoQuietRun st steps = ¬ IsQuiet st (reverse steps)

-- after the steps this is no legal reply to the event
abbrev pub IsIllegal : Setting → List Step → Event → Reply → Type 0
IsIllegal st steps event reply = ¬ IsLegal st (reverse steps) event reply

-- keys of one letter in space 0
abbrev pub a : List ℕ
a = key_of 0 (97 ∷ [])

abbrev pub b : List ℕ
b = key_of 0 (98 ∷ [])

abbrev pub k : List ℕ
k = key_of 0 (107 ∷ [])

abbrev pub n : List ℕ
n = key_of 0 (110 ∷ [])

abbrev pub t : List ℕ
t = key_of 0 (116 ∷ [])

abbrev pub x : List ℕ
x = key_of 0 (120 ∷ [])

abbrev pub y : List ℕ
y = key_of 0 (121 ∷ [])

abbrev pub z : List ℕ
z = key_of 0 (122 ∷ [])

-- the key of one letter in space 7
abbrev pub a_in_7 : List ℕ
a_in_7 = key_of 7 (97 ∷ [])

-- values of one digit
abbrev pub v1 : List ℕ
v1 = 49 ∷ []

abbrev pub v2 : List ℕ
v2 = 50 ∷ []

abbrev pub v3 : List ℕ
v3 = 51 ∷ []

abbrev pub v4 : List ℕ
v4 = 52 ∷ []

abbrev pub v5 : List ℕ
v5 = 53 ∷ []

abbrev pub v6 : List ℕ
v6 = 54 ∷ []

abbrev pub v7 : List ℕ
v7 = 55 ∷ []

abbrev pub v8 : List ℕ
v8 = 56 ∷ []

abbrev pub v9 : List ℕ
v9 = 57 ∷ []

-- values of seven bytes and of nine
abbrev pub seven : List ℕ
seven = 0 ∷ 0 ∷ 0 ∷ 0 ∷ 0 ∷ 0 ∷ 7 ∷ []

abbrev pub nine : List ℕ
nine = 0 ∷ 0 ∷ 0 ∷ 0 ∷ 0 ∷ 0 ∷ 0 ∷ 0 ∷ 9 ∷ []
