-- The progress of reading and answering the input of a process that serves.
use Rattle.std.specs.Prelude.{◌≡◌, ◌⊎◌, ⊤, ℕ, Bool, true, false, List, [], ◌∷◌, ◌++◌, Option, Some, None}
use Rattle.pc_model.specs.Files.{File, shelf}
use Rattle.pc_model.specs.History.{History}
use Rattle.pc_model.specs.Replies.{Setting}
use Rattle.pc_serving.specs.Inputs.{whole_lines}
use Rattle.pc_serving.specs.Requests.{request_of}
use Rattle.pc_serving.specs.declared.pace.Turned.{Turned}
use Rattle.pc_serving.specs.declared.pace.Turned.TheVariants as turned
use Rattle.pc_server.specs.Acts.{Act, is_quit, lines_of}
use Rattle.pc_server.specs.Services.{Holds, IsCutOff}
use Rattle.pc_server.specs.declared.serve.Stopped.{Stopped}
use Rattle.pc_server.specs.declared.serve.Stopped.TheVariants as stopped
use Rattle.pc_server.specs.declared.service.Service.{Service}

-- the number of the file that the checkpointer's turn has put on the shelf
abbrev pub shelved : Turned → Option ℕ
shelved (turned.Shelved number) = Some number
shelved other = None

-- of the input these whole lines were read, and this is left; nothing is said of an input whose bytes aren't known
abbrev pub IsInputRead : Option (List ℕ) → Option (List ℕ) → List (List ℕ) → Type 0
IsInputRead None left lines = ⊤
IsInputRead (Some text) None lines = ⊥
IsInputRead (Some text) (Some rest) lines = whole_lines text ≡ lines ++ whole_lines rest

-- these are some first whole lines of the input
abbrev pub AreFirstLines : Option (List ℕ) → List (List ℕ) → Type 0
AreFirstLines None lines = ⊤
AreFirstLines (Some text) lines = (rest : List (List ℕ)) × (whole_lines text ≡ lines ++ rest)

-- these are all whole lines of the input
abbrev pub AreAllLines : Option (List ℕ) → List (List ℕ) → Type 0
AreAllLines None lines = ⊤
AreAllLines (Some text) lines = whole_lines text ≡ lines

-- the last of the lines asks for the end
abbrev pub AskForEnd : List (List ℕ) → Type 0
AskForEnd lines = (front : List (List ℕ)) × (line : List ℕ) × (lines ≡ front ++ line ∷ []) × (is_quit (request_of line) ≡ true)

-- nothing more is to be answered after these lines of the input
abbrev pub IsEnd : Option (List ℕ) → List (List ℕ) → Type 0
IsEnd input lines = AreFirstLines input lines × (AreAllLines input lines ⊎ AskForEnd lines)

-- These lines are answered, and of the answers some are sent, and the others wait. The points have these files.
abbrev pub Serving : {T U : Type 0} → (T → Option (List ℕ)) → (T → Option (List ℕ)) → (U → Option (List ℕ)) → Option (List ℕ) → Option (List ℕ) → Setting → ℕ → List (List ℕ) → List File → Service T U → Type 0
Serving written keeps contents log out st lag lines files service =
    (gone turn : List Act) × (at history : History) × Holds written keeps contents log out st gone at turn history service × (lines_of (turn ++ gone) ≡ lines) × (service.server.lag ≡ lag) × (shelf st.run history ≡ files)

-- These lines are answered, and the answers are sent.
abbrev pub HasSent : {T U : Type 0} → (T → Option (List ℕ)) → (T → Option (List ℕ)) → (U → Option (List ℕ)) → Option (List ℕ) → Option (List ℕ) → Setting → ℕ → List (List ℕ) → List File → Service T U → Type 0
HasSent written keeps contents log out st lag lines files service =
    (gone : List Act) × (at : History) × Holds written keeps contents log out st gone at [] at service × (lines_of gone ≡ lines) × (service.server.lag ≡ lag) × (shelf st.run at ≡ files)

-- Some first ones of these lines were answered, and of their answers a prefix was sent, and nothing else; of the log as it was then all
-- is written, and at most as many entries as the lag are not kept.
abbrev pub EndsWithin : {T U : Type 0} → (T → Option (List ℕ)) → (T → Option (List ℕ)) → (U → Option (List ℕ)) → Option (List ℕ) → Option (List ℕ) → Setting → ℕ → List (List ℕ) → List File → T → U → Type 0
EndsWithin written keeps contents log out st lag lines files log_device out_device =
    (gone turn : List Act) × (at history : History) × (rest : List (List ℕ)) × IsCutOff written keeps contents log out st lag gone at turn history log_device out_device × (lines ≡ lines_of (turn ++ gone) ++ rest) × (shelf st.run history ≡ files)

-- The same of some first lines of the input.
abbrev pub EndsServed : {T U : Type 0} → (T → Option (List ℕ)) → (T → Option (List ℕ)) → (U → Option (List ℕ)) → Option (List ℕ) → Option (List ℕ) → Option (List ℕ) → Setting → ℕ → List File → T → U → Type 0
EndsServed written keeps contents log out input st lag files log_device out_device =
    (lines : List (List ℕ)) × AreFirstLines input lines × EndsWithin written keeps contents log out st lag lines files log_device out_device

-- The lines that were read are answered.
abbrev pub ServesOn : {T U : Type 0} → (T → Option (List ℕ)) → (T → Option (List ℕ)) → (U → Option (List ℕ)) → Option (List ℕ) → Option (List ℕ) → Option (List ℕ) → Setting → ℕ → Option (List ℕ) → List File → Service T U → Type 0
ServesOn written keeps contents log out input st lag left files service = (lines : List (List ℕ)) × IsInputRead input left lines × Serving written keeps contents log out st lag lines files service

-- Nothing more is to be answered.
abbrev pub HasServed : {T U : Type 0} → (T → Option (List ℕ)) → (T → Option (List ℕ)) → (U → Option (List ℕ)) → Option (List ℕ) → Option (List ℕ) → Option (List ℕ) → Setting → ℕ → List File → Service T U → Type 0
HasServed written keeps contents log out input st lag files service = (lines : List (List ℕ)) × IsEnd input lines × Serving written keeps contents log out st lag lines files service

-- what a line leaves, by whether more are to be answered
abbrev pub ServesLine : {T U : Type 0} → (T → Option (List ℕ)) → (T → Option (List ℕ)) → (U → Option (List ℕ)) → Option (List ℕ) → Option (List ℕ) → Option (List ℕ) → Setting → ℕ → Option (List ℕ) → List File → Service T U → Bool → Type 0
ServesLine written keeps contents log out input st lag left files service true = ServesOn written keeps contents log out input st lag left files service
ServesLine written keeps contents log out input st lag left files service false = HasServed written keeps contents log out input st lag files service

-- what is left if no more lines are answered
abbrev pub StopsAt : {T U : Type 0} → (T → Option (List ℕ)) → (T → Option (List ℕ)) → (U → Option (List ℕ)) → Option (List ℕ) → Option (List ℕ) → Option (List ℕ) → Setting → ℕ → Option (List ℕ) → List File → Service T U → Stopped → Type 0
StopsAt written keeps contents log out input st lag left files service stopped.Ended = HasServed written keeps contents log out input st lag files service
StopsAt written keeps contents log out input st lag left files service stopped.Filled = ServesOn written keeps contents log out input st lag left files service

-- And all answers were sent: to all lines, or to those that were read before the generation was full.
abbrev pub HasStopped : {T U : Type 0} → (T → Option (List ℕ)) → (T → Option (List ℕ)) → (U → Option (List ℕ)) → Option (List ℕ) → Option (List ℕ) → Option (List ℕ) → Setting → ℕ → Option (List ℕ) → List File → Service T U → Stopped → Type 0
HasStopped written keeps contents log out input st lag left files service stopped.Ended = (lines : List (List ℕ)) × IsEnd input lines × HasSent written keeps contents log out st lag lines files service
HasStopped written keeps contents log out input st lag left files service stopped.Filled = (lines : List (List ℕ)) × IsInputRead input left lines × HasSent written keeps contents log out st lag lines files service
