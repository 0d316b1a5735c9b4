-- The lines that report why lines are bad.
use Rattle.std.specs.Prelude.{◌≡◌, ◌⊎◌, ℕ, ◌-◌, nat_le, List, ◌++◌, Option, Result, Err, if◌then◌else◌, length, take, codes, decimal}
use Rattle.std.specs.List.{flat_map}
use Rattle.pc_types.specs.declared.refusal.Refusal.{Refusal}
use Rattle.pc_types.specs.declared.refusal.Refusal.TheVariants.{OutOfMemory}
use Rattle.pc_io.specs.declared.tally.Tally.{Tally}
use Rattle.pc_io.specs.Tallies.{Puts}
use Rattle.pc_lines.specs.Lines.{lines_in}
use Rattle.pc_reasons.specs.declared.told_lines.BadLine.{BadLine}
use Rattle.pc_reasons.specs.declared.told_lines.TheConstants.{MOST_TOLD}
use Rattle.pc_texts.specs.Texts.{printed_name}
use Rattle.pc_reasons.specs.Sentences.{fault_sentence}
use Rattle.pc_reasons.specs.Scripts.{bad_lines}

-- the name of a file and the number of a line
abbrev pub place_text : List ℕ → ℕ → List ℕ
place_text name number = printed_name name ++ (codes ":" ++ (decimal number ++ codes ": "))

-- a bad line's
abbrev pub bad_line_text : List ℕ → BadLine → List ℕ
bad_line_text name bad = place_text name bad.number ++ (fault_sentence bad.fault ++ codes "\n")

-- how many lines more are bad
abbrev pub more_text : List ℕ → ℕ → List ℕ
more_text name count = printed_name name ++ (codes ": and " ++ (decimal count ++ codes " more\n"))

-- some bad lines, of which the first 20 are reported
abbrev pub bad_lines_text : List ℕ → List BadLine → List ℕ
bad_lines_text name bad =
    if nat_le (length bad) MOST_TOLD then flat_map (bad_line_text name) bad
    else flat_map (bad_line_text name) (take MOST_TOLD bad) ++ more_text name (length bad - MOST_TOLD)

-- the report of a script
abbrev pub script_faults_text : List ℕ → List ℕ → List ℕ
script_faults_text name script = bad_lines_text name (bad_lines 1 (lines_in script))

-- a text was written, or an allocation failed before anything was
abbrev pub PutsOrRefuses : {T : Type 0} → (T → Option (List ℕ)) → Tally T → Tally T → Result (Unit {0}) Refusal → List ℕ → Type 0
PutsOrRefuses contents old new result text = ((result ≡ Err OutOfMemory) × (new ≡ old)) ⊎ Puts contents old new result text
