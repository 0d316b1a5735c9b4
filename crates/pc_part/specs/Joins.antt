-- The join of two files: when it is refused, and its laws.
use Rattle.std.specs.Prelude.{◌≡◌, Bool, List, [], ◌∷◌, Option, Some, None, Result, Err, IfErr, if◌then◌else◌, IsFalse, MatchOption, ⊤, nat_lt}
use Rattle.pc_types.specs.declared.Refusal.{Refusal}
use Rattle.pc_types.specs.declared.Refusal.TheVariants.{OutOfMemory, Conflict, Full}
use Rattle.pc_types.specs.declared.limits.TheConstants.{MOST_FILE_ENTRIES}
use Rattle.pc_model.specs.Maps as map_of
use Rattle.pc_model.specs.Points.{AtPoint, Triples, joined}
use Rattle.pc_model.specs.Files.{File, joined_file, conflict, differs}

-- the first refusal whose cause applies
abbrev pub first_cause : List (Bool × Refusal) → Option Refusal
first_cause [] = None
first_cause (c ∷ causes) = if c.0 then Some c.1 else first_cause causes

-- the result is the refusal that is due; if none is due, it can only fail for an allocation failure
abbrev pub IsRefusedBy : {X : Type 0} → Option Refusal → Result X Refusal → Type 0
IsRefusedBy due result = MatchOption due (IfErr result (λ e. e ≡ OutOfMemory)) (λ refusal. result ≡ Err refusal)

-- whether two contents clash that a key has in both files
abbrev pub clash_at : Option AtPoint → Option AtPoint → Option ⊤
clash_at None b = None
clash_at (Some a) b = if differs a b then Some tt else None

-- why two files' triples can't be joined: they conflict, or the join passes the entry limit
abbrev pub triples_causes : Triples → Triples → List (Bool × Refusal)
triples_causes m n = (conflict m n, Conflict) ∷ (nat_lt MOST_FILE_ENTRIES (map_of.len (joined m n)), Full) ∷ []

-- Two files of one run without conflict are joined to one file, whichever comes first.
abbrev pub JoinsCommute : Type 0
JoinsCommute = (a b : File) → a.run ≡ b.run → IsFalse (conflict a.triples b.triples) → joined_file a b ≡ joined_file b a

-- A file joined with itself stays as it is.
abbrev pub JoinsAreIdempotent : Type 0
JoinsAreIdempotent = (a : File) → joined_file a a ≡ a

-- Three files are joined to one file, whichever two are joined first.
abbrev pub JoinsAssociate : Type 0
JoinsAssociate = (a b c : File) → joined_file (joined_file a b) c ≡ joined_file a (joined_file b c)

-- Two files conflict, whichever comes first, or they don't.
abbrev pub ConflictsAreMutual : Type 0
ConflictsAreMutual = (a b : File) → conflict a.triples b.triples ≡ conflict b.triples a.triples

-- The join of two files conflicts with no file with which neither of them does.
abbrev pub JoinsMakeNoConflict : Type 0
JoinsMakeNoConflict = (a b c : File) → IsFalse (conflict a.triples c.triples) → IsFalse (conflict b.triples c.triples) → IsFalse (conflict (joined_file a b).triples c.triples)
