-- The fold of files: the join of all of them, and when it is refused.
use Rattle.std.specs.Prelude.{◌≡◌, ◌<◌, ◌⊎◌, ◌==◌, not, Bool, List, [], ◌∷◌, Result, Err, MatchBool, MatchResult, IsFalse}
use Rattle.std.specs.List.{Contains, list_any}
use Rattle.pc_types.specs.declared.Refusal.{Refusal}
use Rattle.pc_types.specs.declared.Refusal.TheVariants.{OutOfMemory, NoFile, OtherRun, Conflict, Full}
use Rattle.pc_types.specs.declared.limits.TheConstants.{MOST_FILE_ENTRIES}
use Rattle.pc_model.specs.Maps as map_of
use Rattle.pc_model.specs.Files.{File, joined_file, conflict}
use Rattle.pc_merge.specs.Given.{IsUnder}

-- the join of all the files
abbrev pub folded : File → List File → File
folded file [] = file
folded file (next ∷ files) = joined_file file (folded next files)

-- one of the files is of another run than the first
abbrev pub has_other_run : File → List File → Bool
has_other_run first files = list_any (λ (file : File). not (file.run == first.run)) files

-- no two of the files have a key at one point with different contents
abbrev pub NoneConflict : List File → Type 0
NoneConflict files = (a b : File) → Contains files a → Contains files b → IsFalse (conflict a.triples b.triples)

-- The file is the join of all, and no two of them differ at a key's greatest point: what a key has in any of them is
-- older than what it has in the join, or the same.
pub record IsFold (first : File) (others : List File) (file : File) : Type 0 where
  pub is : file ≡ folded first others
  pub over : (one : File) → Contains (first ∷ others) one → IsUnder one.triples file.triples

-- why files of one run aren't folded: an allocation failure, two that differ at some key and point, or too many keys
abbrev pub IsFoldCause : File → List File → Refusal → Type 0
IsFoldCause first others why =
    (why ≡ OutOfMemory) ⊎ ((why ≡ Conflict) × ¬ NoneConflict (first ∷ others)) ⊎ ((why ≡ Full) × (MOST_FILE_ENTRIES < map_of.len (folded first others).triples))

-- the fold of any files: there is none of no files, none of files of two runs, and otherwise the join, or a cause
abbrev pub Folds : List File → Result File Refusal → Type 0
Folds [] result = result ≡ Err NoFile
Folds (first ∷ others) result = MatchBool (has_other_run first others) (result ≡ Err OtherRun) (MatchResult result (IsFold first others) (IsFoldCause first others))
