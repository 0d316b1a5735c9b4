-- Laws of folds, for files of one run: which causes are left, which file the fold is, and what it represents.
use Rattle.std.specs.Prelude.{◌≡◌, ℕ, ◌⊎◌, List, ◌∷◌, Result, IfOk, MatchResult}
use Rattle.std.specs.List.{Contains, list_any}
use Rattle.pc_types.specs.declared.Entry.{Entry}
use Rattle.pc_types.specs.declared.Refusal.{Refusal}
use Rattle.pc_types.specs.declared.Refusal.TheVariants.{OutOfMemory, Full}
use Rattle.pc_model.specs.Database.{Database}
use Rattle.pc_model.specs.Sets as set
use Rattle.pc_model.specs.Log.{state_at}
use Rattle.pc_model.specs.History.{History, log_of}
use Rattle.pc_model.specs.Points.{laid}
use Rattle.pc_model.specs.Files.{File, shelf, numbers_to}
use Rattle.pc_model.specs.Replies.{Setting}
use Rattle.pc_model.specs.Standing.{IsOfItsPoints, HasLegalEffects}
use Rattle.pc_model.specs.Headline.{TakesPointValue, IsMade}
use Rattle.pc_merge.specs.Folds.{Folds}

-- it is the file that the log gives the points of all these files
pub record IsOfAllPoints (run : ℕ) (base : Database) (log : List Entry) (files : List File) (file : File) : Type 0 where
  pub of_its_points : IsOfItsPoints run base log file
  pub points_of_all : (p : ℕ) → set.contains file.points p ≡ list_any (λ (f : File). set.contains f.points p) files

-- Files that a log gives their points fold to the one that it gives the points of all: nothing but memory and the limit
-- of entries keeps them from it.
abbrev pub FilesFoldWell : Type 0
FilesFoldWell = (run : ℕ) (base : Database) (log : List Entry) (first : File) (others : List File) (result : Result File Refusal) →
    ((f : File) → Contains (first ∷ others) f → IsOfItsPoints run base log f) → Folds (first ∷ others) result →
    MatchResult result (IsOfAllPoints run base log (first ∷ others)) (λ why. (why ≡ OutOfMemory) ⊎ (why ≡ Full))

-- the file is made of a run's shelf by joins; it is each other such file of its points; and if these are 1 to n, the
-- base with it applied is the state of n
pub record IsStateOfItsPoints (st : Setting) (history : History) (file : File) : Type 0 where
  pub is_made : IsMade (shelf st.run history) file
  pub is_only : (other : File) → IsMade (shelf st.run history) other → other.points ≡ file.points → other ≡ file
  pub is_the_state : (n : ℕ) → set.items file.points ≡ numbers_to n → laid st.base 0 file.triples ≡ state_at st.base (log_of history) n

-- The headline holds of folds: files made of a run's shelf fold to a file of which it speaks.
abbrev pub FoldsAreStates : Type 0
FoldsAreStates = (st : Setting) (history : History) (first : File) (others : List File) (result : Result File Refusal) →
    HasLegalEffects st history → TakesPointValue st.base history →
    ((f : File) → Contains (first ∷ others) f → IsMade (shelf st.run history) f) → Folds (first ∷ others) result →
    IfOk result (IsStateOfItsPoints st history)
