-- The state that a script has made, and the stage that it has reached.
use Rattle.std.specs.Prelude.{◌≡◌, ◌≤◌, ⊤, ℕ, List, Bool, true, false}
use Rattle.pc_model.specs.Maps.{len}
use Rattle.pc_model.specs.Database.{Database}
use Rattle.pc_model.specs.History.{History}
use Rattle.pc_engine.specs.Stands.{Stands}
use Rattle.pc_engine.specs.Store.{setting_of}
use Rattle.pc_lines.specs.declared.lines.Line.{Line}
use Rattle.pc_script.specs.declared.script.LineAnswer.{LineAnswer}
use Rattle.pc_script.specs.declared.script.Made.{Made}
use Rattle.pc_script.specs.declared.script.Made.TheVariants as made
use Rattle.pc_script.specs.declared.setup.Setup.{Setup}
use Rattle.pc_script.specs.Scripts.{ScriptStage, setting, AnswersAtStage, answer_text}
use Rattle.pc_script.specs.Scripts.ScriptStage.{Reading, Running, Ended}

-- what was made is what the stage says
abbrev pub StageHolds : Setup → Made → ScriptStage → Type 0
StageHolds setup (made.Base pairs) stage = stage ≡ Reading pairs
StageHolds setup (made.Store world) stage =
    (base : Database) × (history : History) × (stage ≡ Running base history) × (setting_of world ≡ setting setup base) × Stands world history
StageHolds setup made.Ended stage = stage ≡ Ended

-- the base so far has no more pairs than the capacity
abbrev pub HasRoomForPairs : Setup → Made → Type 0
HasRoomForPairs setup (made.Base pairs) = len pairs ≤ setup.capacity
HasRoomForPairs setup m = ⊤

-- the store couldn't be made
abbrev pub is_ended : Made → Bool
is_ended made.Ended = true
is_ended m = false

-- a line was answered by a text of which this is known
abbrev pub IsSaid : Setup → Made → Line → Made → (List ℕ → Type 0) → Type 0
IsSaid setup old l new Known =
    (stage : ScriptStage) → StageHolds setup old stage → (said : LineAnswer) × (next : ScriptStage) × StageHolds setup new next × AnswersAtStage setup stage l said next × Known (answer_text said)

-- the same if the text didn't go out whole
abbrev pub IsSaidInPart : Setup → Made → Line → (List ℕ → Type 0) → Type 0
IsSaidInPart setup old l Known = (stage : ScriptStage) → StageHolds setup old stage → (said : LineAnswer) × (next : ScriptStage) × AnswersAtStage setup stage l said next × Known (answer_text said)
