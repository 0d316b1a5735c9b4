-- The lines of a folder's pairs.
use Rattle.std.specs.Prelude.{◌≡◌, ◌⊎◌, ◌==◌, ◌&&◌, ◌++◌, ℕ, Bool, true, false, is_ok, List, [], ◌∷◌, Option, Some, None, Result, Ok, Err, filter}
use Rattle.std.specs.List.{flat_map, starts_with}
use Rattle.std.specs.Io.KnownBytes.{Appends}
use Rattle.pc_io.specs.Counted.{AppendsBeginning, HasRisen}
use Rattle.pc_types.specs.Keys.{space_of, own_bytes}
use Rattle.pc_io.specs.Tallies.{failures_of, inner_of}
use Rattle.pc_types.specs.declared.refusal.Refusal.{Refusal}
use Rattle.pc_types.specs.declared.refusal.Refusal.TheVariants.{Device, OutOfMemory}
use Rattle.pc_io.specs.declared.tally.Tally.{Tally}
use Rattle.pc_model.specs.Database.{Database}
use Rattle.pc_recover.specs.Recovery.{Recovery, recovery}
use Rattle.pc_restore.specs.Bases.{IsBaseUnmade, TellsLacks}
use Rattle.pc_restore.specs.Lacks.{lacks_of, refuses}
use Rattle.pc_restore.specs.Recoveries.{HoldsAll}
use Rattle.pc_restore.specs.declared.recovery.Folder.{Folder}
use Rattle.pc_restore.specs.declared.recovery.Lost.{Lost}
use Rattle.pc_restore.specs.declared.recovery.Lost.TheVariants as lost
use Rattle.pc_texts.specs.Texts.{printed, printed_key}
use Rattle.pc_json.specs.JsonLines.{json_text}
use Rattle.pc_pairs.specs.declared.choice.Choice.{Choice}
use Rattle.pc_pairs.specs.declared.form.Form.{Form}
use Rattle.pc_pairs.specs.declared.form.Form.TheVariants as form

-- the space is the one that is wanted, or any is
abbrev pub is_in_space : Option ℕ → ℕ → Bool
is_in_space None space = true
is_in_space (Some wanted) space = wanted == space

-- the pair's key is of a space that is wanted, and its own bytes begin as they are to
abbrev pub is_chosen : Choice → List ℕ × List ℕ → Bool
is_chosen choice pair = is_in_space choice.space (space_of pair.0) && starts_with (λ b c. b == c) (own_bytes pair.0) choice.prefix.now

-- the pairs that are chosen, in their order
abbrev pub chosen : Choice → List (List ℕ × List ℕ) → List (List ℕ × List ℕ)
chosen choice pairs = filter (is_chosen choice) pairs

-- the line of a pair, without its end: its key and its value as they are printed, with a space between them; or its object of JSON
abbrev pub pair_line : Form → List ℕ × List ℕ → List ℕ
pair_line form.Words pair = printed_key pair.0 ++ (32 ∷ printed pair.1)
pair_line form.Json pair = json_text (space_of pair.0) (own_bytes pair.0) pair.1

-- the same with its end
abbrev pub line_text : Form → List ℕ × List ℕ → List ℕ
line_text form pair = pair_line form pair ++ (10 ∷ [])

-- the lines of these pairs
abbrev pub pair_lines : Form → List (List ℕ × List ℕ) → List ℕ
pair_lines form pairs = flat_map (line_text form) pairs

-- the lines of the chosen pairs of a database
abbrev pub dump_text : Choice → Database → List ℕ
dump_text choice db = pair_lines choice.form (chosen choice db.entries)

-- all of a text went out, and nothing failed
abbrev pub PutsWhole : {T : Type 0} → (T → Option (List ℕ)) → Tally T → Tally T → List ℕ → Type 0
PutsWhole contents old new text = Appends (contents (inner_of old)) (contents (inner_of new)) text × (failures_of new ≡ failures_of old)

-- a beginning of a text went out
abbrev pub SendsBeginning : {T : Type 0} → (T → Option (List ℕ)) → Tally T → Tally T → List ℕ → Type 0
SendsBeginning contents old new text = AppendsBeginning (contents (inner_of old)) (contents (inner_of new)) text

-- why not all of a text went out, of which a beginning did: the device failed, which was counted, or memory ran out
abbrev pub IsPutInPart : {T : Type 0} → (T → Option (List ℕ)) → Tally T → Tally T → List ℕ → Refusal → Type 0
IsPutInPart contents old new text why = SendsBeginning contents old new text × (((why ≡ Device) × HasRisen (failures_of old) (failures_of new)) ⊎ (why ≡ OutOfMemory))

-- a text went out; or a beginning of it, until the device failed, which was counted, or until memory ran out, where nothing failed
abbrev pub PutsUntil : {T : Type 0} → (T → Option (List ℕ)) → Tally T → Tally T → Result (Unit {0}) Refusal → List ℕ → Type 0
PutsUntil contents old new (Ok u) text = PutsWhole contents old new text
PutsUntil contents old new (Err why) text =
    SendsBeginning contents old new text × (((why ≡ Device) × HasRisen (failures_of old) (failures_of new)) ⊎ ((why ≡ OutOfMemory) × (failures_of new ≡ failures_of old)))

-- what is recovered of the folder was written: the lines of its chosen pairs. The folder isn't damaged, or damage is accepted, and what
-- it lacks was reported. Said where the files' bytes are known.
abbrev pub Dumps : {R T E : Type 0} → (R → Option (List ℕ)) → (T → Option (List ℕ)) → (E → Option (List ℕ)) → Folder R → Choice → Bool → Tally T → Tally T → Tally E → Tally E → Type 0
Dumps remaining contents reported folder choice accepts_damage old new told_old told_new = (base : List ℕ) (names parts : List (List ℕ)) (log : List ℕ) → HoldsAll remaining folder base names parts log →
    (found : Recovery) × (recovery base parts log ≡ Ok found) × Appends (contents (inner_of old)) (contents (inner_of new)) (dump_text choice found.pairs)
    × (refuses accepts_damage (lacks_of (is_ok folder.log) parts log found) ≡ false) × TellsLacks reported told_old told_new names found (lacks_of (is_ok folder.log) parts log found)

-- the same of a beginning of the lines
abbrev pub DumpsInPart : {R T : Type 0} → (R → Option (List ℕ)) → (T → Option (List ℕ)) → Folder R → Choice → Tally T → Tally T → Type 0
DumpsInPart remaining contents folder choice old new = (base : List ℕ) (names parts : List (List ℕ)) (log : List ℕ) → HoldsAll remaining folder base names parts log →
    (found : Recovery) × (recovery base parts log ≡ Ok found) × SendsBeginning contents old new (dump_text choice found.pairs)

-- Why not all lines were written: the output failed, which was counted, and a beginning of them went out, or memory ran out for a
-- line of JSON, and a beginning did; or no base is made of the folder, and nothing went out.
abbrev pub IsUndumped : {R T E : Type 0} → (R → Option (List ℕ)) → (T → Option (List ℕ)) → (E → Option (List ℕ)) → Folder R → Choice → Bool → Tally T → Tally T → Tally E → Tally E → Lost R → Type 0
IsUndumped remaining contents reported folder choice accepts_damage old new told_old told_new cause =
    ((cause ≡ lost.Output) × HasRisen (failures_of old) (failures_of new) × DumpsInPart remaining contents folder choice old new)
    ⊎ ((cause ≡ lost.Folder OutOfMemory) × DumpsInPart remaining contents folder choice old new)
    ⊎ ((new ≡ old) × IsBaseUnmade remaining reported folder accepts_damage told_old told_new cause)
