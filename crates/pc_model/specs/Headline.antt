-- The promises of a whole history: the tokens of points in order, each touched key taken once, and files that represent
-- the states of their points.
use Rattle.std.specs.Prelude.{◌≡◌, ℕ, Bool, true, false, List, [], ◌∷◌, ◌++◌, map, ⊤, IsTrue, IsFalse}
use Rattle.std.specs.List.{IsDistinct, Contains}
use Rattle.pc_types.specs.declared.Phase.{Phase}
use Rattle.pc_types.specs.declared.Phase.TheVariants.{Resolve, Capture}
use Rattle.pc_model.specs.Maps.{get}
use Rattle.pc_model.specs.Database.{Database, same_bytes}
use Rattle.pc_model.specs.Log.{state_at, has_token}
use Rattle.pc_model.specs.History.{History, Effect, effect, log_of, phase_of, point_of}
use Rattle.pc_model.specs.History.Effect.{Takes}
use Rattle.pc_model.specs.Sets as set
use Rattle.pc_model.specs.Points.{touched, taken, laid}
use Rattle.pc_model.specs.Files.{File, joined_file, shelf, conflict, numbers_to}
use Rattle.pc_model.specs.Replies.{Setting, closed_set}

-- resolve and capture, from the point's token to the end of its capture: keys may be left to take
abbrev pub is_taking : Phase → Bool
is_taking Resolve = true
is_taking Capture = true
is_taking other = false

-- the log has the token of the present point
abbrev pub is_sealed : History → Bool
is_sealed history = has_token (point_of history) (log_of history)

-- the keys that the present point's part is to have
abbrev pub touched_now : History → List (List ℕ)
touched_now history = touched (point_of history) (log_of history)

-- those of them that were taken, in order
abbrev pub taken_keys : History → List (List ℕ)
taken_keys history = map (λ t. t.0) (taken history)

-- Each key once: after the point's token the keys taken and those left are together the touched ones, in their order, and
-- outside resolve and capture none is left, so all were taken. No touched key is there twice.
pub record TakesEachKeyOnce (history : History) : Type 0 where
  pub taken_and_left : IsTrue (is_sealed history) → taken_keys history ++ closed_set history ≡ touched_now history
  pub none_left : IsFalse (is_taking (phase_of history)) → closed_set history ≡ []
  pub all_taken : IsTrue (is_sealed history) → IsFalse (is_taking (phase_of history)) → taken_keys history ≡ touched_now history
  pub once : IsDistinct same_bytes (touched_now history)

-- if this effect is a Take, its content is what the key has in the state of the point
abbrev pub ValueBy : Database → Effect → History → Type 0
ValueBy base (Takes key content) history = content ≡ get (state_at base (log_of history) (point_of history)) key
ValueBy base other history = ⊤

-- each Take of the history has carried what its key has in the state of the point
abbrev pub TakesPointValue : Database → History → Type 0
TakesPointValue base [] = ⊤
TakesPointValue base (step ∷ history) = ValueBy base (effect step) history × TakesPointValue base history

-- the files made of a shelf: its own, and the joins of two such
pub data IsMade (shelf : List File) : File → Type 0 where
  Shelved : (file : File) → Contains shelf file → IsMade shelf file
  Joined : (a b : File) → IsMade shelf a → IsMade shelf b → IsMade shelf (joined_file a b)

-- The headline, of the files made of the shelf: each of their points has its token in the log; any two are of one run and
-- don't conflict; those of the same points are one file, in whatever order and however often they were joined; and the
-- base with one of the points 1 to n applied to it is the state of n: the database after what was committed before n's
-- token.
pub record HasHeadline (st : Setting) (history : History) : Type 0 where
  pub has_tokens : (file : File) (point : ℕ) → IsMade (shelf st.run history) file → IsTrue (set.contains file.points point) → IsTrue (has_token point (log_of history))
  pub any_two_join : (a b : File) → IsMade (shelf st.run history) a → IsMade (shelf st.run history) b → (a.run ≡ b.run) × IsFalse (conflict a.triples b.triples)
  pub one_file : (a b : File) → IsMade (shelf st.run history) a → IsMade (shelf st.run history) b → a.points ≡ b.points → a ≡ b
  pub is_the_state : (file : File) (n : ℕ) → IsMade (shelf st.run history) file → set.items file.points ≡ numbers_to n → laid st.base 0 file.triples ≡ state_at st.base (log_of history) n
