-- The part of a receipt that is a view of the log.
use Rattle.std.specs.Prelude.{◌≡◌, ℕ, ◌-◌, List, All, Option, Some, None, slice_get}
use Rattle.pc_types.specs.declared.Entry.{Entry}
use Rattle.pc_types.specs.declared.Receipt.{Receipt}
use Rattle.pc_types.specs.declared.Write.{Write}
use Rattle.pc_kept_log.specs.Logs.{writes_of_entry}
use Rattle.pc_shared.specs.Sitters.{Sitter}

-- the writes of the entry of this number; the first one has number 1
abbrev pub entry_writes : List Entry → ℕ → List Write
entry_writes log number = writes_of_entry (slice_get log (number - 1))

-- each of the session's receipts is its own, and has the writes of its entry in the log
abbrev pub AreLentBy : List Entry → Sitter → Type 0
AreLentBy log s = All (λ r. (r.session ≡ s.number) × (entry_writes log r.number ≡ r.writes)) s.receipts

-- the receipt of the session at the first place, among its own at the second
abbrev pub receipt_in : Option Sitter → ℕ → Option Receipt
receipt_in None place = None
receipt_in (Some s) place = slice_get s.receipts place

abbrev pub receipt_at : List Sitter → ℕ → ℕ → Option Receipt
receipt_at sessions at place = receipt_in (slice_get sessions at) place
