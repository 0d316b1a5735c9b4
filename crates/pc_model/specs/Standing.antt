-- The premises of laws about a history: its effects, its tokens and its files.
use Rattle.std.specs.Prelude.{◌≡◌, ℕ, ◌+◌, ◌-◌, nat_lt, nat_le, Bool, true, false, ◌&&◌, ◌⊎◌, List, [], ◌∷◌, ⊤, IsTrue, IsFalse}
use Rattle.pc_types.specs.declared.Phase.{Phase}
use Rattle.pc_types.specs.declared.Phase.TheVariants.{Prepare, Resolve, Capture, Complete}
use Rattle.pc_types.specs.declared.Entry.{Entry}
use Rattle.pc_model.specs.Database.{Database}
use Rattle.pc_model.specs.Log.{front, has_token}
use Rattle.pc_model.specs.History.{History, effect, log_of, phase_of, point_of}
use Rattle.pc_model.specs.History.Effect.{Nothing}
use Rattle.pc_model.specs.Sets as set
use Rattle.pc_model.specs.Sets.{Set, number_order}
use Rattle.pc_model.specs.Points.{content}
use Rattle.pc_model.specs.Files.{File, joined_file, conflict}
use Rattle.pc_model.specs.Replies.{Setting, IsLegal}

-- the point is 0, or its token is before that of the next point in the log
abbrev pub PrecedesNext : ℕ → List Entry → Type 0
PrecedesNext point log = (point ≡ 0) ⊎ IsTrue (has_token point (front (point + 1) log))

-- the file of a set of points, by the log of its run
abbrev pub file_of_points : ℕ → Database → List Entry → Set number_order → File
file_of_points run base log points = record { run = run; points = points; triples = content base log (set.items points) }

-- each step of the history was legal, or has no effect
abbrev pub HasLegalEffects : Setting → History → Type 0
HasLegalEffects st [] = ⊤
HasLegalEffects st (step ∷ history) = (IsLegal st history step.event step.reply ⊎ (effect step ≡ Nothing)) × HasLegalEffects st history

-- the greatest point whose token the log has, or 0, by the phase and the point
abbrev pub sealed_in : Phase → ℕ → ℕ
sealed_in Prepare point = point - 1
sealed_in other point = point

-- the same by the history: its point, or in prepare the point before
abbrev pub last_sealed : History → ℕ
last_sealed history = sealed_in (phase_of history) (point_of history)

-- Tokens in order: the log has the tokens of the points from 1 to the last sealed one and no others, each before the next.
pub record HasTokensInOrder (history : History) : Type 0 where
  pub has : (point : ℕ) → has_token point (log_of history) ≡ (nat_lt 0 point && nat_le point (last_sealed history))
  pub in_order : (point : ℕ) → IsTrue (has_token (point + 1) (log_of history)) → PrecedesNext point (log_of history)

-- resolve, capture and complete, from the point's token to the end of its cycle
abbrev pub is_past_token : Phase → Bool
is_past_token Resolve = true
is_past_token Capture = true
is_past_token Complete = true
is_past_token other = false

-- the file is the one that the log gives its points; it has at least one point, and each has its token in the log
pub record IsOfItsPoints (run : ℕ) (base : Database) (log : List Entry) (file : File) : Type 0 where
  pub is : file ≡ file_of_points run base log file.points
  pub covers_some : ¬ (set.items file.points ≡ [])
  pub has_tokens : (point : ℕ) → IsTrue (set.contains file.points point) → IsTrue (has_token point log)

-- Two files join well: they are of one run and don't conflict, and their join is the file of the points of both.
pub record JoinsWell (run : ℕ) (base : Database) (log : List Entry) (a b : File) : Type 0 where
  pub one_run : a.run ≡ b.run
  pub no_conflict : IsFalse (conflict a.triples b.triples)
  pub is_of_both : joined_file a b ≡ file_of_points run base log (set.union a.points b.points)
