-- The view of a session in contracts, and the facts of sessions when their store is closed.
use Rattle.std.specs.Prelude.{◌≡◌, ◌<◌, ◌≤◌, ◌+◌, ◌==◌, false, All, take, length, get_or, ℕ, zero, suc, Bool, true, List, [], ◌∷◌, ◌++◌}
use Rattle.std.specs.List.{list_any}
use Rattle.pc_types.specs.declared.Entry.{Entry}
use Rattle.pc_types.specs.declared.Receipt.{Receipt}
use Rattle.pc_model.specs.History.{History, log_of, is_open}
use Rattle.pc_model.specs.Files.{BaseFile, File}
use Rattle.pc_model.specs.Standing.{IsOfItsPoints}
use Rattle.pc_model.specs.Replies.{Setting, IsLegalHistory}
use Rattle.pc_model.specs.Calls.{HasCallsOf, IsBeginning}
use Rattle.pc_model.specs.Receipts.{Read, own_of, AreExact}
use Rattle.pc_txn.specs.Commits.{CommitNote, notes_of}
use Rattle.pc_tie.specs.declared.sight.Sitting.{Sitting}
use Rattle.pc_tie.specs.Rules.{Speaks, sitting}

-- a session's number, the history that it has seen, and its receipts
pub record Sitter : Type 0 where
  pub number : ℕ
  pub seen : History
  pub receipts : List Receipt

abbrev pub sitter : ℕ → History → List Receipt → Sitter
sitter number seen receipts = record { number = number; seen = seen; receipts = receipts }

-- the session that has seen this history, with the receipts that it determines
abbrev pub seated_at : ℕ → History → Sitter
seated_at number seen = sitter number seen (own_of number seen).receipts

-- The session is busy if its transaction is open; its notes are those of the receipts that its history determines, and while it is
-- busy so are the reads.
pub record SessionKeeps (busy : Bool) (reads : List Read) (commits : List CommitNote) (s : ℕ) (seen : History) : Type 0 where
  pub when_open : is_open s seen ≡ busy
  pub of_commits : commits ≡ notes_of (own_of s seen).receipts
  pub while_busy : busy ≡ true → reads ≡ (own_of s seen).reads

-- its number, and the history that it has seen
abbrev pub sitting_of : Sitter → Sitting
sitting_of s = sitting s.number s.seen

-- sessions that have seen nothing, numbered from 1
abbrev pub new_sitters : ℕ → List Sitter
new_sitters zero = []
new_sitters (suc k) = new_sitters k ++ sitter (suc k) [] [] ∷ []

-- its number is no witness's, and it has the receipts that its history determines
abbrev pub IsSeated : Sitter → Type 0
IsSeated s = Speaks s.number × (s.receipts ≡ (own_of s.number s.seen).receipts)

-- The history begins with the one that the session has seen, and has no other call of it; its receipts are those that the history
-- determines, and exact by the log.
pub record IsSitterSettled (st : Setting) (history : History) (s : Sitter) : Type 0 where
  pub calls : HasCallsOf history s.number s.seen
  pub own : s.receipts ≡ (own_of s.number history).receipts
  pub exact : AreExact st.base (log_of history) s.number s.receipts

-- no two of the sessions have one number
abbrev pub AreSittersApart : List Sitter → Type 0
AreSittersApart ss = (i j : ℕ) (d : Sitter) → i < length ss → j < length ss → (get_or ss i d).number ≡ (get_or ss j d).number → i ≡ j

-- the session of this number is in the list
abbrev pub has_sitter : List Sitter → ℕ → Bool
has_sitter ss n = list_any (λ s. s.number == n) ss

-- the sessions numbered 1 to count are in the list
abbrev pub HasAll : ℕ → List Sitter → Type 0
HasAll count ss = (k : ℕ) → k < count → has_sitter ss (k + 1) ≡ true

-- one of them isn't
abbrev pub LacksOne : ℕ → List Sitter → Type 0
LacksOne count ss = (k : ℕ) × (k < count) × (has_sitter ss (k + 1) ≡ false)

-- The remains of a store, by one legal history: the base is that of the start, and the log that of the history; each session has
-- seen a beginning of it with just its calls, and has exact receipts; the checkpointer too has seen one with just its calls; each
-- part is the file of its points; and the entries that were handed out are the first `logged` ones of the log.
pub record IsLeftByStore (st : Setting) (start : BaseFile) (log : List Entry) (logged : ℕ) (sessions : List Sitter) (checkpointer : History) (parts : List File) (given : List Entry) (history : History) : Type 0 where
  pub legal : IsLegalHistory st history
  pub base : start ≡ record { run = st.run; point = 0; pairs = st.base }
  pub log_is : log ≡ log_of history
  pub settled : All (IsSitterSettled st history) sessions
  pub cycles : HasCallsOf history 0 checkpointer
  pub worth : All (IsOfItsPoints st.run st.base log) parts
  pub list : given ≡ take logged log
  pub within : logged ≤ length log

-- What a store was at its end, by one legal history: each of these sessions has seen a beginning of it with just its calls, and has
-- exact receipts; the checkpointer too has seen one with just its calls; and a witness has seen a beginning of it.
pub record IsEndOf (st : Setting) (sessions : List Sitter) (checkpointer witness : History) (history : History) : Type 0 where
  pub legal : IsLegalHistory st history
  pub settled : All (IsSitterSettled st history) sessions
  pub cycles : HasCallsOf history 0 checkpointer
  pub had_seen : IsBeginning witness history
