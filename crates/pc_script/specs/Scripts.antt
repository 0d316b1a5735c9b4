-- The output of a script. Its first lines may give the base of the store; the first line of another kind ends the base,
-- and the store then starts from it. An allocation may fail at any line, so this is a relation and no function.
use Rattle.std.specs.Prelude.{◌≡◌, ℕ, ◌⊎◌, ◌&&◌, not, nat_lt, Bool, true, false, List, [], ◌∷◌, ◌++◌, MatchBool, if◌then◌else◌, is_none, codes}
use Rattle.std.specs.List.{list_any}
use Rattle.pc_types.specs.declared.Reply.{Reply}
use Rattle.pc_types.specs.declared.Reply.TheVariants as told
use Rattle.pc_types.specs.declared.Refusal.{Refusal}
use Rattle.pc_types.specs.declared.Refusal.TheVariants as why
use Rattle.pc_model.specs.Maps as map_of
use Rattle.pc_model.specs.Database.{Database}
use Rattle.pc_model.specs.History.{History}
use Rattle.pc_model.specs.Replies.{Setting, IsLegal}
use Rattle.pc_lines.specs.declared.lines.Line.{Line}
use Rattle.pc_lines.specs.declared.lines.Line.TheVariants as line
use Rattle.pc_script.specs.declared.script.LineAnswer.{LineAnswer}
use Rattle.pc_script.specs.declared.script.LineAnswer.TheVariants as answer
use Rattle.pc_script.specs.declared.setup.Setup.{Setup}
use Rattle.pc_script.specs.declared.script.Status.{Status}
use Rattle.pc_script.specs.declared.script.Status.TheVariants as status
use Rattle.pc_lines.specs.Lines.{lines_in, spelled}
use Rattle.pc_texts.specs.Texts.{reply_text, state_text, hex_line, check_line}
use Rattle.pc_script.specs.Views.{AnswersView}

-- how far a script has come
pub data ScriptStage : Type 0 where
  -- the base has these pairs so far
  Reading : Database → ScriptStage
  -- the store started from this base, and represents this history
  Running : Database → History → ScriptStage
  -- the store couldn't be made
  Ended : ScriptStage

-- what the store starts from
abbrev pub setting : Setup → Database → Setting
setting setup base = record { run = setup.run; base = base; sessions = setup.sessions; capacity = setup.capacity }

-- the answer of a refusal
abbrev pub refusal_answer : Refusal → LineAnswer
refusal_answer why = answer.Says (told.Refused why)

-- a new key, if the base has as many pairs as the capacity
abbrev pub is_base_full : ℕ → Database → List ℕ → Bool
is_base_full capacity base key = is_none (map_of.get base key) && not (nat_lt (map_of.len base) capacity)

-- a pair of the base: refused, or set; or an allocation failed, and the base is as it was
abbrev pub AnswersPair : ℕ → Database → List ℕ → List ℕ → LineAnswer → Database → Type 0
AnswersPair capacity base key value said next =
    MatchBool (is_base_full capacity base key) ((said ≡ refusal_answer why.Full) × (next ≡ base))
    (((said ≡ answer.Says told.Ok) × (next ≡ map_of.insert base key value)) ⊎ ((said ≡ refusal_answer why.OutOfMemory) × (next ≡ base)))

-- a line once there is a store: an event has some legal reply, and the history grows by it; no other line changes anything
abbrev pub AnswersLine : Setting → History → Line → LineAnswer → History → Type 0
AnswersLine st history line.Silent said next = (said ≡ answer.Nothing) × (next ≡ history)
AnswersLine st history line.Malformed said next = (said ≡ answer.BadLine) × (next ≡ history)
AnswersLine st history (line.Sets key value) said next = (said ≡ refusal_answer why.WrongPhase) × (next ≡ history)
AnswersLine st history (line.SetsRefused why) said next = (said ≡ refusal_answer why) × (next ≡ history)
AnswersLine st history (line.AsksRefused why) said next = (said ≡ refusal_answer why) × (next ≡ history)
AnswersLine st history (line.Asks event) said next =
    (reply : Reply) × IsLegal st history event reply × (said ≡ answer.Says reply) × (next ≡ record { event = event; reply = reply } ∷ history)
AnswersLine st history (line.Shows view) said next = AnswersView st history view said × (next ≡ history)

-- the first line after the base: the store is made and answers it, or an allocation failed
abbrev pub AnswersFirst : Setup → Database → Line → LineAnswer → ScriptStage → Type 0
AnswersFirst setup base l said next =
    ((history : History) × AnswersLine (setting setup base) [] l said history × (next ≡ Running base history)) ⊎ ((said ≡ refusal_answer why.OutOfMemory) × (next ≡ Ended))

-- what a line may be answered at a stage, and the stage after it
abbrev pub AnswersAtStage : Setup → ScriptStage → Line → LineAnswer → ScriptStage → Type 0
AnswersAtStage setup (Reading base) line.Silent said next = (said ≡ answer.Nothing) × (next ≡ Reading base)
AnswersAtStage setup (Reading base) (line.Sets key value) said next = (after : Database) × AnswersPair setup.capacity base key value said after × (next ≡ Reading after)
AnswersAtStage setup (Reading base) (line.SetsRefused why) said next = (said ≡ refusal_answer why) × (next ≡ Reading base)
AnswersAtStage setup (Reading base) line.Malformed said next = AnswersFirst setup base line.Malformed said next
AnswersAtStage setup (Reading base) (line.Asks event) said next = AnswersFirst setup base (line.Asks event) said next
AnswersAtStage setup (Reading base) (line.AsksRefused why) said next = AnswersFirst setup base (line.AsksRefused why) said next
AnswersAtStage setup (Reading base) (line.Shows view) said next = AnswersFirst setup base (line.Shows view) said next
AnswersAtStage setup (Running base history) l said next = (after : History) × AnswersLine (setting setup base) history l said after × (next ≡ Running base after)
AnswersAtStage setup Ended l said next = (said ≡ answer.Nothing) × (next ≡ Ended)

-- the text of an answer, with the end of its line
abbrev pub answer_text : LineAnswer → List ℕ
answer_text answer.Nothing = []
answer_text answer.BadLine = codes "bad line\n"
answer_text (answer.Says reply) = reply_text reply ++ codes "\n"
answer_text (answer.State base) = state_text base
answer_text (answer.Text text) = hex_line text
answer_text (answer.Check sound) = check_line sound

-- the text that the lines may print in order, from a stage to the last one
abbrev pub Prints : Setup → ScriptStage → List (List ℕ) → List ℕ → ScriptStage → Type 0
Prints setup stage [] text last = (text ≡ []) × (last ≡ stage)
Prints setup stage (l ∷ lines) text last =
    (said : LineAnswer) × (next : ScriptStage) × (rest : List ℕ) × AnswersAtStage setup stage (spelled l) said next × (text ≡ answer_text said ++ rest) × Prints setup next lines rest last

-- what the first lines of a script may print
abbrev pub PrintsFrom : Setup → List (List ℕ) → List ℕ → ScriptStage → Type 0
PrintsFrom setup lines text last = Prints setup (Reading map_of.empty) lines text last

-- the line is a bad one
abbrev pub is_malformed : Line → Bool
is_malformed line.Malformed = true
is_malformed l = false

-- some line is malformed
abbrev pub has_bad_line : List (List ℕ) → Bool
has_bad_line lines = list_any (λ l. is_malformed (spelled l)) lines

-- how a script ended whose lines led to this stage
abbrev pub script_status : ScriptStage → List (List ℕ) → Status
script_status Ended lines = status.NoStore
script_status (Reading base) lines = if has_bad_line lines then status.BadLines else status.Done
script_status (Running base history) lines = if has_bad_line lines then status.BadLines else status.Done

-- the script's answers may be this text and this status
abbrev pub IsScriptAnswered : Setup → List ℕ → Status → List ℕ → Type 0
IsScriptAnswered setup script status text = (last : ScriptStage) × PrintsFrom setup (lines_in script) text last × (status ≡ script_status last (lines_in script))

-- some first lines of the script may print this text
abbrev pub IsAnsweredInPart : Setup → List ℕ → List ℕ → Type 0
IsAnsweredInPart setup script text =
    (front : List (List ℕ)) × (back : List (List ℕ)) × (last : ScriptStage) × (front ++ back ≡ lines_in script) × PrintsFrom setup front text last
