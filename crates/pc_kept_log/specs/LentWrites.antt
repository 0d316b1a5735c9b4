-- The writes of an entry, read of its text in format 02 in order, each by itself.
use Rattle.std.specs.Prelude.{ℕ, zero, suc, List, [], ◌∷◌, Result, Ok, Err}
use Rattle.pc_types.specs.declared.refusal.Refusal.{Refusal}
use Rattle.pc_types.specs.declared.refusal.Refusal.TheVariants.{BadLength}
use Rattle.pc_types.specs.declared.Write.{Write}
use Rattle.pc_io.specs.declared.Format.TheVariants.{Second}
use Rattle.pc_io.specs.Fields.{◌>>=◌, key_at}
use Rattle.pc_log.specs.Reading.{change_at}

-- a write, whatever writes were before it
unfoldable pub plain_write_at : List ℕ → Result (Write × List ℕ) Refusal
plain_write_at bytes = do
  key ← key_at Second BadLength bytes
  change ← change_at key.1
  Ok (record { key = key.0; change = change.0 }, change.1)

-- the write that was read, and those after it
abbrev pub and_more : Result (Write × List ℕ) Refusal → (List ℕ → List Write) → List Write
and_more (Ok write) more = write.0 ∷ more write.1
and_more (Err fault) more = []

-- at most that many writes, as far as they can be read
unfoldable pub readable_writes : ℕ → List ℕ → List Write
readable_writes zero bytes = []
readable_writes (suc count) bytes = and_more (plain_write_at bytes) (readable_writes count)
