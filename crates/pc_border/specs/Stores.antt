-- The replies of a store at the border, and its state after them.
use Rattle.std.specs.Prelude.{◌≡◌, ◌⊎◌, ◌≤◌, ◌<◌, ◌+◌, ℕ, List, length, Option, Some, None, Result, Ok, Err, slice_range}
use Rattle.std.specs.List.{flat_map}
use Rattle.pc_types.specs.declared.Event.{Event}
use Rattle.pc_types.specs.declared.Reply.{Reply}
use Rattle.pc_types.specs.declared.Reply.TheVariants.{Refused}
use Rattle.pc_types.specs.declared.refusal.Refusal.{Refusal}
use Rattle.pc_types.specs.declared.refusal.Refusal.TheVariants.{OutOfMemory, BadKind, NoFile}
use Rattle.pc_model.specs.History.{History}
use Rattle.pc_log.specs.Texts.{entry_text, header_text}
use Rattle.pc_model.specs.Files.{File, file_at}
use Rattle.pc_part.specs.Texts.{part_text}
use Rattle.pc_bases.specs.Texts.{base_text}
use Rattle.pc_engine.specs.Store as world
use Rattle.pc_engine.specs.Stands.{Stands, Follows, IfRefused}
use Rattle.pc_wire.specs.Answers.{refusal_told, text_told, answer_of_reply}
use Rattle.pc_wire.specs.Calls.{event_asked}
use Rattle.pc_wire.specs.declared.answers.Answer.{Answer}
use Rattle.pc_wire.specs.declared.calls.Call.{Call}
use Rattle.pc_wire.specs.declared.codes.TheConstants.{BASE, PART, LOG, ENTRIES}
use Rattle.pc_border.specs.declared.open_store.OpenStore.{OpenStore}
use Rattle.pc_border.specs.declared.open_store.TheConstants.{MOST_SHOWN}
use Rattle.pc_wire.specs.declared.shown.Shown.TheVariants as shown

-- The world answered the event with this reply: for each history that it represented, the reply is legal, and it represents the
-- longer one, with all that a step promises. A refusal changes nothing.
pub record IsStep (event : Event) (old : world.Store) (reply : Reply) (new : world.Store) : Type 0 where
  pub follows : (history : History) → Stands old history → Follows (world.setting_of old) history event reply new
  pub setting : world.setting_of new ≡ world.setting_of old
  pub refused : IfRefused reply (new ≡ old)

-- The reply to what a call asks: that of its event, or that an allocation failed; or why it asks none. Neither of these changes
-- anything.
abbrev pub IsReplied : Result Event Refusal → world.Store → Reply → world.Store → Type 0
IsReplied (Ok event) old reply new = IsStep event old reply new ⊎ ((reply ≡ Refused OutOfMemory) × (new ≡ old))
IsReplied (Err why) old reply new = (reply ≡ Refused why) × (new ≡ old)

-- A call was answered by the numbers of its reply, and that reply is shown.
abbrev pub IsReplyShown : OpenStore → Call → List ℕ → List ℕ → Answer → OpenStore → Type 0
IsReplyShown old call own bytes answer new = (reply : Reply) × IsReplied (event_asked call own bytes) old.world reply new.world × (answer ≡ answer_of_reply reply) × (new.shown ≡ shown.Reply reply)

-- a text, which is that of this many entries, is shown, and the world is as it was; or an allocation failed, and nothing has
-- changed
abbrev pub IsShownText : List ℕ → ℕ → OpenStore → Answer → OpenStore → Type 0
IsShownText text entries old answer new =
    ((answer ≡ text_told (length text) entries) × (new ≡ record { world = old.world; shown = shown.Text text }))
    ⊎ ((answer ≡ refusal_told OutOfMemory) × (new ≡ old))

-- that many of this many entries after the first ones may be shown at a time: at most 65,536, and at least one, unless none is left
pub record IsPieceOf (behind total count : ℕ) : Type 0 where
  pub most : count ≤ MOST_SHOWN
  pub some : behind < total → (1 ≤ count) × (behind + count ≤ total)
  pub none : total ≤ behind → count ≡ 0

-- the texts of entries are shown, from the one at this place on, and of no others
abbrev pub AreEntriesShown : ℕ → OpenStore → Answer → OpenStore → Type 0
AreEntriesShown behind old answer new = (count : ℕ) × IsShownText (flat_map entry_text (slice_range old.world.log behind (behind + count))) count old answer new
    × IsPieceOf behind (length old.world.log) count

-- the text of a file of the shelf is shown, or there is no such file
abbrev pub IsFileShown : Option File → OpenStore → Answer → OpenStore → Type 0
IsFileShown (Some file) old answer new = IsShownText (part_text file) 0 old answer new
IsFileShown None old answer new = (answer ≡ refusal_told NoFile) × (new ≡ old)

-- the text that is called so is shown
abbrev pub IsText : ℕ → ℕ → OpenStore → Answer → OpenStore → Type 0
IsText what number old answer new =
    (what ≡ BASE → IsShownText (base_text old.world.base) 0 old answer new)
    × (what ≡ PART → IsFileShown (file_at old.world.shelf number) old answer new)
    × (what ≡ LOG → IsShownText (header_text old.world.base.run) 0 old answer new)
    × (what ≡ ENTRIES → AreEntriesShown number old answer new)
    × ((what ≡ 0) ⊎ (ENTRIES < what) → (answer ≡ refusal_told BadKind) × (new ≡ old))
