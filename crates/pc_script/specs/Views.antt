-- The views of a store.
use Rattle.std.specs.Prelude.{◌≡◌, ◌⊎◌, ◌↔◌, Bool, true, IsTrue, MatchOption}
use Rattle.pc_types.specs.declared.Refusal.TheVariants as why
use Rattle.pc_types.specs.declared.Reply.TheVariants as told
use Rattle.pc_model.specs.Files.{File, BaseFile, shelf, file_at}
use Rattle.pc_model.specs.LaidFiles.{laid_file}
use Rattle.pc_model.specs.History.{History}
use Rattle.pc_model.specs.Replies.{Setting}
use Rattle.pc_part.specs.Joins.{first_cause}
use Rattle.pc_bases.specs.Layings.{lay_causes}
use Rattle.pc_part.specs.Texts.{part_text}
use Rattle.pc_engine.specs.Store.{Store}
use Rattle.pc_engine.specs.Checks.{IsStoreSound}
use Rattle.pc_lines.specs.declared.lines.View.{View}
use Rattle.pc_lines.specs.declared.lines.View.TheVariants as view
use Rattle.pc_script.specs.declared.script.LineAnswer.{LineAnswer}
use Rattle.pc_script.specs.declared.script.LineAnswer.TheVariants as answer

-- the base file that a run starts from
abbrev pub base_of : Setting → BaseFile
base_of st = record { run = st.run; point = 0; pairs = st.base }

-- the base with the file applied to it, or why it can't be, or that an allocation failed
abbrev pub ShowsState : BaseFile → LineAnswer → File → Type 0
ShowsState base said file =
    MatchOption (first_cause (lay_causes base file)) ((said ≡ answer.State (laid_file base file)) ⊎ (said ≡ answer.Says (told.Refused why.OutOfMemory))) (λ due. said ≡ answer.Says (told.Refused due))

-- the file's text, or that an allocation failed
abbrev pub ShowsText : LineAnswer → File → Type 0
ShowsText said file = (said ≡ answer.Text (part_text file)) ⊎ (said ≡ answer.Says (told.Refused why.OutOfMemory))

-- whether the store is what its log says, or that an allocation failed
abbrev pub ShowsCheck : Store → LineAnswer → Type 0
ShowsCheck w said = ((sound : Bool) × (said ≡ answer.Check sound) × (IsTrue sound ↔ IsStoreSound w)) ⊎ (said ≡ answer.Says (told.Refused why.OutOfMemory))

-- if the line asks for a check, what it found of this store is shown
abbrev pub ShowsItsCheck : Store → View → LineAnswer → Type 0
ShowsItsCheck w view.Check said = ShowsCheck w said
ShowsItsCheck w other said = Unit {0}

-- what is shown after the history: of a file that isn't there nothing; a store is always what its log says
abbrev pub AnswersView : Setting → History → View → LineAnswer → Type 0
AnswersView st history (view.State number) said = MatchOption (file_at (shelf st.run history) number) (said ≡ answer.Says (told.Refused why.NoFile)) (ShowsState (base_of st) said)
AnswersView st history (view.Text number) said = MatchOption (file_at (shelf st.run history) number) (said ≡ answer.Says (told.Refused why.NoFile)) (ShowsText said)
AnswersView st history view.Check said = (said ≡ answer.Check true) ⊎ (said ≡ answer.Says (told.Refused why.OutOfMemory))
