-- The view of a counted reader or writer.
use Rattle.std.specs.Prelude.{◌≡◌, ℕ, List, Option, Result, Ok, Err}
use Rattle.std.specs.Io.KnownBytes.{Appends}
use Rattle.pc_io.specs.Counted.{HasRisen, AppendsPart}
use Rattle.pc_types.specs.declared.refusal.Refusal.{Refusal}
use Rattle.pc_types.specs.declared.refusal.Refusal.TheVariants.{Device}
use Rattle.pc_io.specs.declared.tally.Tally.{Tally}

-- how many of its calls failed
abbrev pub failures_of : {T : Type 0} → Tally T → ℕ
failures_of t = t.failures

-- what is counted
abbrev pub inner_of : {T : Type 0} → Tally T → T
inner_of t = t.inner

-- A write of the text to a counted writer. On Ok all of it went out and nothing failed; on Err the device failed in this
-- call, and a prefix went out, but not all of the text. If the contents aren't known nothing is said of them.
abbrev pub Puts : {T : Type 0} → (T → Option (List ℕ)) → Tally T → Tally T → Result (Unit {0}) Refusal → List ℕ → Type 0
Puts contents old new (Ok u) text = Appends (contents old.inner) (contents new.inner) text × (new.failures ≡ old.failures)
Puts contents old new (Err e) text = (e ≡ Device) × HasRisen old.failures new.failures × AppendsPart (contents old.inner) (contents new.inner) text
