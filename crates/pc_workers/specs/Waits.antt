-- The facts that a client has once it has waited for the log.
use Rattle.std.specs.Prelude.{◌≡◌, ℕ, ◌-◌, Bool, true, false, List, length, Option, IfSome, is_some}
use Rattle.pc_model.specs.History.{History, log_of}
use Rattle.pc_model.specs.Calls.{IsBeginning}
use Rattle.pc_model.specs.Receipts.{own_of}
use Rattle.pc_model.specs.Replies.{Setting, IsLegalHistory}
use Rattle.pc_shared.specs.Sitters.{Sitter, sitter}
use Rattle.pc_shared.specs.Written.{AreOut}

-- the first entries of the log that the session has seen, of this number, are the first of those whose text has gone out; and its
-- receipts are those that the history determines
abbrev pub IsSeatedOut : (List ℕ → Type 0) → ℕ → Sitter → ℕ → Type 0
IsSeatedOut out run s number = (s.receipts ≡ (own_of s.number s.seen).receipts) × AreOut out run s.seen number

-- Of the log that the session has seen all entries but the last `most` ones are the first of those whose text has gone out.
pub record IsHeld (out : List ℕ → Type 0) (st : Setting) (most : ℕ) (s : Sitter) : Type 0 where
  pub legal : IsLegalHistory st s.seen
  pub receipts : s.receipts ≡ (own_of s.number s.seen).receipts
  pub gone : AreOut out st.run s.seen (length (log_of s.seen) - most)

-- a client that waits, if it does, with a lag of this many entries, knows that, unless it has gone on since the log had ended
abbrev pub HasWaited : (List ℕ → Type 0) → Setting → Option ℕ → Bool → Sitter → Type 0
HasWaited out st lag ended s = IfSome lag (λ most. ended ≡ false → IsHeld out st most s)

-- a mark isn't forgotten, and a new one is of the end of this store's log
pub record KeepsMark {X : Type 0} (is_ours : X → Type 0) (old new : Option X) : Type 0 where
  pub stays : is_some old ≡ true → is_some new ≡ true
  pub ours : IfSome old is_ours → IfSome new is_ours

-- it was so when the session had seen some beginning of its history with the receipts that it has
abbrev pub AreHeld : (List ℕ → Type 0) → Setting → ℕ → Sitter → Type 0
AreHeld out st most s = (seen : History) × IsBeginning seen s.seen × IsHeld out st most (sitter s.number seen s.receipts)
