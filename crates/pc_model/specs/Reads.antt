-- Correct reads, and correct sums.
use Rattle.std.specs.Prelude.{◌≡◌, ℕ, ◌==◌, [], ◌∷◌, ⊤, MatchBool, Some}
use Rattle.pc_types.specs.Changes.{added}
use Rattle.pc_model.specs.Maps.{get}
use Rattle.pc_model.specs.Database.{Database, written, seen}
use Rattle.pc_model.specs.History.{History, Effect, effect, writes_of, contents}
use Rattle.pc_model.specs.History.Effect.{Begins, Reads, Adds, Commits}

-- what this effect adds to what the earlier ones say of the reads and adds of the session's transaction
abbrev pub ReadBy : ℕ → Database → Effect → History → Type 0 → Type 0
ReadBy s db (Begins t) history earlier = MatchBool (t == s) ⊤ earlier
ReadBy s db (Reads t key answer) history earlier = (t ≡ s → answer ≡ seen (written (writes_of s history) key) (get db key)) × earlier
ReadBy s db (Adds t key delta sum) history earlier = (t ≡ s → added delta (seen (written (writes_of s history) key) (get db key)) ≡ Some sum) × earlier
ReadBy s db other history earlier = earlier

-- each read of the session since its last begin gave what the session's own writes make of what the database has, and each add
-- the sum with it
abbrev pub HasReadFrom : Database → ℕ → History → Type 0
HasReadFrom db s [] = ⊤
HasReadFrom db s (step ∷ history) = ReadBy s db (effect step) history (HasReadFrom db s history)

-- if this effect is a commit, its transaction has read from and added to the database right before it
abbrev pub RightBy : Database → Effect → History → Type 0
RightBy base (Commits s) history = HasReadFrom (contents base history) s history
RightBy base other history = ⊤

-- the reads and the sums of each committed transaction are correct
abbrev pub HasRightReads : Database → History → Type 0
HasRightReads base [] = ⊤
HasRightReads base (step ∷ history) = RightBy base (effect step) history × HasRightReads base history
