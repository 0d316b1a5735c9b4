-- Files, bases and the shelf: how files are joined, and when they conflict.
use Rattle.std.specs.Prelude.{ℕ, zero, suc, ◌-◌, ◌==◌, ◌&&◌, not, Bool, true, false, List, [], ◌∷◌, ◌++◌, Option, Some, None, if◌then◌else◌, slice_get}
use Rattle.std.specs.List.{list_any}
use Rattle.pc_model.specs.Maps as map
use Rattle.pc_model.specs.Sets as set
use Rattle.pc_model.specs.Sets.{Set, number_order}
use Rattle.pc_model.specs.Database.{Database, same_bytes}
use Rattle.pc_model.specs.Points.{Triples, AtPoint, joined, taken}
use Rattle.pc_model.specs.History.{History, Effect, effect}
use Rattle.pc_model.specs.History.Effect.{Shelves, Joins}

-- a file: the run that it is of, its points, and its triples
pub record File : Type 0 where
  pub run : ℕ
  pub points : Set number_order
  pub triples : Triples

-- the triples of what was taken, each at the point
abbrev pub triples_taken : ℕ → List (List ℕ × Option (List ℕ)) → Triples
triples_taken point [] = map.empty
triples_taken point (t ∷ ts) = map.insert (triples_taken point ts) t.0 (record { point = point; content = t.1 })

-- the join of two files of one run
abbrev pub joined_file : File → File → File
joined_file a b = record { run = a.run; points = set.union a.points b.points; triples = joined a.triples b.triples }

-- the file of a number: the first on the shelf has number 1
abbrev pub file_at : List File → ℕ → Option File
file_at shelf number = if number == 0 then None else slice_get shelf (number - 1)

-- the join, if both files are there
abbrev pub join_of : Option File → Option File → List File
join_of (Some a) (Some b) = joined_file a b ∷ []
join_of a b = []

-- what an effect after this history and this shelf adds to the shelf
abbrev pub shelved_by : ℕ → Effect → History → List File → List File
shelved_by run (Shelves point) history shelf = record { run = run; points = set.insert set.empty point; triples = triples_taken point (taken history) } ∷ []
shelved_by run (Joins a b) history shelf = join_of (file_at shelf a) (file_at shelf b)
shelved_by run other history shelf = []

-- the shelf: the files in the order of shelving
abbrev pub shelf : ℕ → History → List File
shelf run [] = []
shelf run (step ∷ history) = shelf run history ++ shelved_by run (effect step) history (shelf run history)

-- two contents are the same
abbrev pub same_content : Option (List ℕ) → Option (List ℕ) → Bool
same_content None None = true
same_content (Some v) (Some w) = same_bytes v w
same_content a b = false

-- two triples of a key have the same point and different contents
abbrev pub differs : AtPoint → Option AtPoint → Bool
differs a None = false
differs a (Some b) = (a.point == b.point) && not (same_content a.content b.content)

-- Conflict: some key has in both the same point and different contents
abbrev pub conflict : Triples → Triples → Bool
conflict m n = list_any (λ e. differs e.1 (map.get n e.0)) m.entries

-- the numbers 1 to n
abbrev pub numbers_to : ℕ → List ℕ
numbers_to zero = []
numbers_to (suc n) = numbers_to n ++ suc n ∷ []

-- a base: a run, a point and the database at it
pub record BaseFile : Type 0 where
  pub run : ℕ
  pub point : ℕ
  pub pairs : Database
