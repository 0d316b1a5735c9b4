-- The text that a logger has written.
use Rattle.std.specs.Prelude.{⊤, ℕ, List, Option, Some, None, Ok}
use Rattle.pc_io.specs.Tallies.{Puts}
use Rattle.pc_types.specs.declared.Entry.{Entry}
use Rattle.pc_io.specs.declared.tally.Tally.{Tally}
use Rattle.pc_log.specs.Texts.{log_text}

-- The log that these entries make, in a run of this number, has gone out to the file, if there is one.
abbrev pub HasLogged : {T : Type 0} → (T → Option (List ℕ)) → ℕ → Option (Tally T) → Option (Tally T) → List Entry → Type 0
HasLogged contents run None None entries = ⊤
HasLogged contents run (Some old) (Some new) entries = Puts contents old new (Ok tt) (log_text run entries)
HasLogged contents run old new entries = ⊥
