-- How far the input was read and answered, call by call.
use Rattle.std.proofs.Common.{◌≡◌, ℕ, ◌⊎◌, inl, inr, Bool, true, false, not, List, [], ◌∷◌, ◌++◌, append-nil, append_assoc, refl, sym, ap, subst, ◌∙◌}
use Rattle.std.specs.Prelude.{Option, Some, None, Result, Ok, Err, MatchResult, MatchBool, IfOk, IfSome, OnOk}
use Rattle.pc_io.specs.Tallies.{inner_of}
use Rattle.pc_types.specs.declared.Step.{Step}
use Rattle.pc_types.specs.declared.refusal.Refusal.{Refusal}
use Rattle.pc_model.specs.Files.{File, shelf}
use Rattle.pc_model.specs.History.{History}
use Rattle.pc_model.specs.Replies.{Setting, IsLegal, IsLegalHistory}
use Rattle.pc_serving.specs.Inputs.{IsNextLine, whole_lines}
use Rattle.pc_serving.specs.Points.{IsShelvedAs}
use Rattle.pc_serving.specs.Requests.{request_of}
use Rattle.pc_serving.specs.declared.pace.Turned.{Turned}
use Rattle.pc_serving.specs.declared.pace.Turned.TheVariants as turned
use Rattle.pc_server.specs.Acts.{Act, AnswersRequest, is_quit, lines_of}
use Rattle.pc_server.specs.Acts.Act.{Answered, WentOn}
use Rattle.pc_server.specs.Files.{AreOfPoints, HasAllFiles, HasOnlyFiles, WithFiles, WithSomeFiles}
use Rattle.pc_server.specs.Inputs.{AreAllLines, AreFirstLines, EndsServed, EndsWithin, HasSent, HasServed, HasStopped, IsInputRead, ServesLine, ServesOn, Serving, StopsAt}
use Rattle.pc_server.specs.Services.{Holds, IsCutOff}
use Rattle.pc_server.specs.declared.serve.ServeFault.{ServeFault}
use Rattle.pc_server.specs.declared.serve.Stopped.{Stopped}
use Rattle.pc_server.specs.declared.serve.Stopped.TheVariants as stopped
use Rattle.pc_server.specs.declared.service.CutOff.{CutOff}
use Rattle.pc_server.specs.declared.service.Service.{Service}
use Rattle.pc_server.proofs.FileLaws.{LeavesShelf, files_of_points, line_leaves, turn_leaves}
use Rattle.pc_server.proofs.ServiceLaws.{held_cut}

-- what was read are some first lines
pub first_lines : (input left : Option (List ℕ)) (lines : List (List ℕ)) → IsInputRead input left lines → AreFirstLines input lines
first_lines None left lines read = tt
first_lines (Some text) None lines read = absurd read
first_lines (Some text) (Some rest) lines read = (whole_lines rest, read)

-- and so are all
all_first : (input : Option (List ℕ)) (lines : List (List ℕ)) → AreAllLines input lines → AreFirstLines input lines
all_first None lines all = tt
all_first (Some text) lines all = ([], all ∙ sym (append-nil lines))

-- the lines of acts after others
lines_on : (gone turn : List Act) → lines_of (turn ++ gone) ≡ lines_of gone ++ lines_of turn
lines_on gone [] = sym (append-nil (lines_of gone))
lines_on gone (Answered line text ∷ turn) = ap (λ l. l ++ line ∷ []) (lines_on gone turn) ∙ append_assoc (lines_of gone) (lines_of turn) (line ∷ [])
lines_on gone (WentOn step ∷ turn) = lines_on gone turn

-- a line was read, or none was left
pub next_read : (input before left : Option (List ℕ)) (line : List ℕ) (lines : List (List ℕ)) (some : Bool) → IsInputRead input before lines → IfSome before (λ rest. IsNextLine rest some line left) → MatchBool some (IsInputRead input left (lines ++ line ∷ [])) (AreAllLines input lines)
next_read None before left line lines true read next = tt
next_read None before left line lines false read next = tt
next_read (Some text) None left line lines some read next = absurd read
next_read (Some text) (Some rest) left line lines true read (behind, is, e) =
    subst (λ o. IsInputRead (Some text) o (lines ++ line ∷ [])) (sym is) (read ∙ ap (λ l. lines ++ l) e ∙ sym (append_assoc lines (line ∷ []) (whole_lines behind)))
next_read (Some text) (Some rest) left line lines false read e = read ∙ ap (λ l. lines ++ l) e ∙ append-nil lines

-- what asks for the end
asks_end : (quits goes_on : Bool) → goes_on ≡ not quits → goes_on ≡ false → quits ≡ true
asks_end true goes_on e is = refl
asks_end false goes_on e is = sym is ∙ e

tail_same : (step : Step) (history between : History) → step ∷ history ≡ step ∷ between → between ≡ history
tail_same step history between e = cc

module _ {T U : Type 0} (written keeps : T → Option (List ℕ)) (contents : U → Option (List ℕ)) (log out : Option (List ℕ)) (st : Setting) where
  -- the shelf is that of the history
  held_shelf : (gone turn : List Act) (at history : History) (service : Service T U) → Holds written keeps contents log out st gone at turn history service → service.server.served.world.shelf ≡ shelf st.run history
  held_shelf gone turn at history service holds = holds.stays.serves.stands.parts.cycle.shelved ∙ ap (λ (s : Setting). shelf s.run history) holds.stays.serves.setting

  -- and its files are those of points
  held_points : (gone turn : List Act) (at history : History) (service : Service T U) → Holds written keeps contents log out st gone at turn history service → AreOfPoints (shelf st.run history)
  held_points gone turn at history service holds =
      files_of_points st at history gone turn (subst (λ s. IsLegalHistory s history) holds.stays.serves.setting holds.stays.serves.stands.legal) holds.stays.gone_by holds.stays.turn_by

module _ {T U : Type 0} (written keeps : T → Option (List ℕ)) (contents : U → Option (List ℕ)) (log out : Option (List ℕ)) (st : Setting) (lag : ℕ) where
  -- how a turn may have ended
  abbrev pub TurnSent : List Act → History → List Act → History → ℕ → Service T U → Result (Unit {0}) CutOff → Type 0
  TurnSent gone at turn history before new result =
      MatchResult result (λ _. Holds written keeps contents log out st (turn ++ gone) history [] history new)
      (λ _. IsCutOff written keeps contents log out st before gone at turn history new.log (inner_of new.out) ⊎ IsCutOff written keeps contents log out st before (turn ++ gone) history [] history new.log (inner_of new.out))

  module _ (files : List File) where
    -- a turn was sent
    pub sent_whole : (gone turn : List Act) (at history : History) (lines : List (List ℕ)) (before : ℕ) (new : Service T U) (result : Result (Unit {0}) CutOff) (u : Unit {0}) → lines_of (turn ++ gone) ≡ lines → new.server.lag ≡ lag → shelf st.run history ≡ files → result ≡ Ok u
        → TurnSent gone at turn history before new result → HasSent written keeps contents log out st lag lines files new
    sent_whole gone turn at history lines before new result u these same there is sent = (turn ++ gone, history, subst (TurnSent gone at turn history before new) is sent, these, same, there)

    -- or truncated
    pub sent_part : (gone turn : List Act) (at history : History) (lines : List (List ℕ)) (before : ℕ) (new : Service T U) (result : Result (Unit {0}) CutOff) (why : CutOff) → lines_of (turn ++ gone) ≡ lines → before ≡ lag → shelf st.run history ≡ files → result ≡ Err why
        → TurnSent gone at turn history before new result → EndsWithin written keeps contents log out st lag lines files new.log (inner_of new.out)
    sent_part gone turn at history lines before new result why these same there is sent = by (subst (TurnSent gone at turn history before new) is sent)
      where
        by : IsCutOff written keeps contents log out st before gone at turn history new.log (inner_of new.out) ⊎ IsCutOff written keeps contents log out st before (turn ++ gone) history [] history new.log (inner_of new.out) → EndsWithin written keeps contents log out st lag lines files new.log (inner_of new.out)
        by (inl cut) = (gone, turn, at, history, [], subst (λ n. IsCutOff written keeps contents log out st n gone at turn history new.log (inner_of new.out)) same cut, sym these ∙ sym (append-nil (lines_of (turn ++ gone))), there)
        by (inr cut) = (turn ++ gone, [], history, history, [], subst (λ n. IsCutOff written keeps contents log out st n (turn ++ gone) history [] history new.log (inner_of new.out)) same cut, sym these ∙ sym (append-nil (lines_of (turn ++ gone))), there)

    -- the line was answered
    pub line_served : (gone turn : List Act) (at history : History) (lines : List (List ℕ)) (line : List ℕ) (new : Service T U) (result : Result Bool Refusal) (b : Bool) → lines_of (turn ++ gone) ≡ lines → new.server.lag ≡ lag → shelf st.run history ≡ files → result ≡ Ok b
        → OnOk result ((text : List ℕ) × (next : History) × AnswersRequest st history (request_of line) text next × Holds written keeps contents log out st gone at (Answered line text ∷ turn) next new)
        → Serving written keeps contents log out st lag (lines ++ line ∷ []) files new
    line_served gone turn at history lines line new result b these same there is answered =
        let (text, next, told, holds) =
        subst (λ r. OnOk r ((text : List ℕ) × (next : History) × AnswersRequest st history (request_of line) text next × Holds written keeps contents log out st gone at (Answered line text ∷ turn) next new)) is answered in
        (gone, Answered line text ∷ turn, at, next, holds, ap (λ l. l ++ line ∷ []) these, same, line_leaves st history next (request_of line) text told ∙ there)

    -- what is served may end at any moment
    pub serving_ends : (lines : List (List ℕ)) (service : Service T U) → Serving written keeps contents log out st lag lines files service → EndsWithin written keeps contents log out st lag lines files service.log (inner_of service.out)
    serving_ends lines service (gone, turn, at, history, holds, these, same, there) =
        (gone, turn, at, history, [], subst (λ n. IsCutOff written keeps contents log out st n gone at turn history service.log (inner_of service.out)) same (held_cut written keeps contents log out st gone turn at history service holds), sym these ∙ sym (append-nil (lines_of (turn ++ gone))), there)

    -- the line was not answered
    pub line_lost : (lines : List (List ℕ)) (old new : Service T U) → Serving written keeps contents log out st lag lines files old → (new.log ≡ old.log) × (new.out ≡ old.out) → EndsWithin written keeps contents log out st lag lines files new.log (inner_of new.out)
    line_lost lines old new serving devices =
        subst (λ o. EndsWithin written keeps contents log out st lag lines files new.log (inner_of o)) (sym devices.1) (subst (λ d. EndsWithin written keeps contents log out st lag lines files d (inner_of old.out)) (sym devices.0) (serving_ends lines old serving))

    -- what ended within some lines ended within more
    pub within_more : (lines more : List (List ℕ)) (device : T) (answers : U) → EndsWithin written keeps contents log out st lag lines files device answers → EndsWithin written keeps contents log out st lag (lines ++ more) files device answers
    within_more lines more device answers (gone, turn, at, history, rest, cut, e, there) = (gone, turn, at, history, rest ++ more, cut, ap (λ l. l ++ more) e ∙ append_assoc (lines_of (turn ++ gone)) rest more, there)

    -- how a call may have ended that is to answer these lines, of which some are answered
    abbrev pub Outcome : {X : Type 0} → List (List ℕ) → List (List ℕ) → Service T U → Result X ServeFault → Type 0
    Outcome lines within new result = MatchResult result (λ _. Serving written keeps contents log out st lag lines files new) (λ _. EndsWithin written keeps contents log out st lag within files new.log (inner_of new.out))

    -- a turn that was sent, or wasn't due
    pub sent_serves : {X : Type 0} (lines : List (List ℕ)) (new : Service T U) (result : Result X ServeFault)
        → MatchResult result (λ _. HasSent written keeps contents log out st lag lines files new) (λ _. EndsWithin written keeps contents log out st lag lines files new.log (inner_of new.out)) → Outcome lines lines new result
    sent_serves lines new (Ok x) (gone, at, holds, these, same, there) = (gone, [], at, at, holds, these, same, there)
    sent_serves lines new (Err why) ends = ends

    pub ok_of : {X : Type 0} (lines within : List (List ℕ)) (new : Service T U) (result : Result X ServeFault) (x : X) → result ≡ Ok x → Outcome lines within new result → Serving written keeps contents log out st lag lines files new
    ok_of lines within new result x is outcome = subst (Outcome lines within new) is outcome

    pub err_of : {X : Type 0} (lines within : List (List ℕ)) (new : Service T U) (result : Result X ServeFault) (why : ServeFault) → result ≡ Err why → Outcome lines within new result → EndsWithin written keeps contents log out st lag within files new.log (inner_of new.out)
    err_of lines within new result why is outcome = subst (Outcome lines within new) is outcome

    -- the checkpointer had its turn: what it has put on the shelf
    pub point_served : (gone turn : List Act) (at history : History) (lines : List (List ℕ)) (new : Service T U) (result : Result Turned Refusal) → lines_of (turn ++ gone) ≡ lines → new.server.lag ≡ lag → shelf st.run history ≡ files
        → (Holds written keeps contents log out st gone at turn history new × (result ≡ Ok turned.Nothing)) ⊎ ((step : Step) × Holds written keeps contents log out st gone at (WentOn step ∷ turn) (step ∷ history) new × IsShelvedAs step.reply result)
        → (later : List File) × Serving written keeps contents log out st lag lines later new × LeavesShelf result files later × AreOfPoints later × (new.server.served.world.shelf ≡ later)
    point_served gone turn at history lines new result these same there (inl (holds, is)) =
        (shelf st.run history, (gone, turn, at, history, holds, these, same, refl), subst (λ r. LeavesShelf r files (shelf st.run history)) (sym is) there, held_points written keeps contents log out st gone turn at history new holds, held_shelf written keeps contents log out st gone turn at history new holds)
    point_served gone turn at history lines new result these same there (inr (step, holds, told)) =
        let (between, led, is, legal, e) = holds.stays.turn_by in
        let earlier : between ≡ history = tail_same step history between e in (
          shelf st.run (step ∷ history),
          (gone, WentOn step ∷ turn, at, step ∷ history, holds, these, same, refl),
          subst (λ old. LeavesShelf result old (shelf st.run (step ∷ history))) there (turn_leaves st history step result is (subst (λ h. IsLegal st h step.event step.reply) earlier legal) told),
          held_points written keeps contents log out st gone (WentOn step ∷ turn) at (step ∷ history) new holds,
          held_shelf written keeps contents log out st gone (WentOn step ∷ turn) at (step ∷ history) new holds,
        )

  module _ (first now : ℕ → List ℕ → Type 0) where
    -- how a call may have ended that is to answer these lines, of which some are answered, with the points' files
    abbrev pub FilesOutcome : {X : Type 0} → List (List ℕ) → List (List ℕ) → Service T U → Result X ServeFault → Type 0
    FilesOutcome lines within new result =
        MatchResult result (λ _. WithFiles first now (λ files. Serving written keeps contents log out st lag lines files new)) (λ _. WithSomeFiles first now (λ files. EndsWithin written keeps contents log out st lag within files new.log (inner_of new.out)))

    -- the files were kept, or one wasn't
    pub files_served : {X : Type 0} (lines : List (List ℕ)) (later : List File) (new : Service T U) (result : Result X ServeFault) → Serving written keeps contents log out st lag lines later new
        → MatchResult result (λ _. HasAllFiles now later × HasOnlyFiles first now later) (λ _. HasOnlyFiles first now later) → FilesOutcome lines lines new result
    files_served lines later new (Ok x) serving (all, only) = (later, serving, all, only)
    files_served lines later new (Err why) serving only = (later, serving_ends later lines new serving, only)

    -- the checkpointer was refused
    pub point_refused : (lines : List (List ℕ)) (files : List File) (new : Service T U) (result : Result Turned Refusal) (why : Refusal) → result ≡ Err why → HasOnlyFiles first now files
        → (later : List File) × Serving written keeps contents log out st lag lines later new × LeavesShelf result files later × AreOfPoints later × (new.server.served.world.shelf ≡ later)
        → WithSomeFiles first now (λ files. EndsWithin written keeps contents log out st lag lines files new.log (inner_of new.out))
    point_refused lines files new result why is only (later, serving, left, points, there) =
        let same : later ≡ files = subst (λ r. LeavesShelf r files later) is left in
        (later, serving_ends later lines new serving, subst (HasOnlyFiles first now) (sym same) only)

    module _ (input left : Option (List ℕ)) where
      -- how a line may have ended
      abbrev pub LineOutcome : Service T U → Result Bool ServeFault → Type 0
      LineOutcome new result = MatchResult result (λ b. WithFiles first now (λ files. ServesLine written keeps contents log out input st lag left files new b)) (λ _. WithSomeFiles first now (λ files. EndsServed written keeps contents log out input st lag files new.log (inner_of new.out)))

      -- the next line was answered
      pub next_served : (lines : List (List ℕ)) (line : List ℕ) (new : Service T U) (result : Result Bool ServeFault) → IsInputRead input left (lines ++ line ∷ []) → IfOk result (λ goes_on. goes_on ≡ not (is_quit (request_of line)))
          → FilesOutcome (lines ++ line ∷ []) (lines ++ line ∷ []) new result → LineOutcome new result
      next_served lines line new (Ok true) read asks (files, serving, all, only) = (files, (lines ++ line ∷ [], read, serving), all, only)
      next_served lines line new (Ok false) read asks (files, serving, all, only) =
          (files, (lines ++ line ∷ [], (first_lines input left (lines ++ line ∷ []) read, inr (lines, line, refl, asks_end (is_quit (request_of line)) false asks refl)), serving), all, only)
      next_served lines line new (Err why) read asks (files, ends, only) = (files, (lines ++ line ∷ [], first_lines input left (lines ++ line ∷ []) read, ends), only)

      -- the input has ended
      pub input_ended : (lines : List (List ℕ)) (service : Service T U) → AreAllLines input lines → WithFiles first now (λ files. Serving written keeps contents log out st lag lines files service) → WithFiles first now (λ files. HasServed written keeps contents log out input st lag files service)
      input_ended lines service whole (files, serving, all, only) = (files, (lines, (all_first input lines whole, inl whole), serving), all, only)

      -- what is served may end at any moment
      pub serves_end : (service : Service T U) → WithFiles first now (λ files. ServesOn written keeps contents log out input st lag left files service) → WithSomeFiles first now (λ files. EndsServed written keeps contents log out input st lag files service.log (inner_of service.out))
      serves_end service (files, (lines, read, serving), all, only) = (files, (lines, first_lines input left lines read, serving_ends files lines service serving), only)

      pub line_ok : (new : Service T U) (result : Result Bool ServeFault) (b : Bool) → result ≡ Ok b → LineOutcome new result → WithFiles first now (λ files. ServesLine written keeps contents log out input st lag left files new b)
      line_ok new result b is outcome = subst (LineOutcome new) is outcome

      pub line_err : (new : Service T U) (result : Result Bool ServeFault) (why : ServeFault) → result ≡ Err why → LineOutcome new result → WithSomeFiles first now (λ files. EndsServed written keeps contents log out input st lag files new.log (inner_of new.out))
      line_err new result why is outcome = subst (LineOutcome new) is outcome

    module _ (input left : Option (List ℕ)) where
      -- how the lines of an input may have ended
      abbrev pub LinesOutcome : Service T U → Result Stopped ServeFault → Type 0
      LinesOutcome new result = MatchResult result (λ s. WithFiles first now (λ files. StopsAt written keeps contents log out input st lag left files new s)) (λ _. WithSomeFiles first now (λ files. EndsServed written keeps contents log out input st lag files new.log (inner_of new.out)))

      -- what is served if no more lines are answered, and what is left once all answers are sent
      abbrev pub Closes : Service T U → Stopped → Type 0
      Closes new s = (files : List File) × (lines : List (List ℕ)) × AreFirstLines input lines × Serving written keeps contents log out st lag lines files new × HasAllFiles now files × HasOnlyFiles first now files
          × ((later : Service T U) → HasSent written keeps contents log out st lag lines files later → HasStopped written keeps contents log out input st lag left files later s)

      closes : (new : Service T U) (s : Stopped) → WithFiles first now (λ files. StopsAt written keeps contents log out input st lag left files new s) → Closes new s
      closes new stopped.Ended (files, (lines, ended, serving), all, only) = (files, lines, ended.0, serving, all, only, λ later sent. (lines, ended, sent))
      closes new stopped.Filled (files, (lines, read, serving), all, only) = (files, lines, first_lines input left lines read, serving, all, only, λ later sent. (lines, read, sent))

      pub lines_ok : (new : Service T U) (result : Result Stopped ServeFault) (s : Stopped) → result ≡ Ok s → LinesOutcome new result → Closes new s
      lines_ok new result s is outcome = closes new s (subst (LinesOutcome new) is outcome)

      -- the last turn was sent
      pub all_sent : (lines : List (List ℕ)) (files : List File) (new : Service T U) (result : Result (Unit {0}) ServeFault) (s : Stopped) (u : Unit {0}) → result ≡ Ok u → HasAllFiles now files → HasOnlyFiles first now files
          → ((later : Service T U) → HasSent written keeps contents log out st lag lines files later → HasStopped written keeps contents log out input st lag left files later s)
          → MatchResult result (λ _. HasSent written keeps contents log out st lag lines files new) (λ _. EndsWithin written keeps contents log out st lag lines files new.log (inner_of new.out))
          → WithFiles first now (λ files. HasStopped written keeps contents log out input st lag left files new s)
      all_sent lines files new result s u is all only stops sent =
          (files, stops new (subst (λ r. MatchResult r (λ _. HasSent written keeps contents log out st lag lines files new) (λ _. EndsWithin written keeps contents log out st lag lines files new.log (inner_of new.out))) is sent), all, only)

      -- or truncated
      pub last_cut : (lines : List (List ℕ)) (files : List File) (new : Service T U) (result : Result (Unit {0}) ServeFault) (why : ServeFault) → result ≡ Err why → AreFirstLines input lines → HasOnlyFiles first now files
          → MatchResult result (λ _. HasSent written keeps contents log out st lag lines files new) (λ _. EndsWithin written keeps contents log out st lag lines files new.log (inner_of new.out))
          → WithSomeFiles first now (λ files. EndsServed written keeps contents log out input st lag files new.log (inner_of new.out))
      last_cut lines files new result why is firsts only sent =
          (files, (lines, firsts, subst (λ r. MatchResult r (λ _. HasSent written keeps contents log out st lag lines files new) (λ _. EndsWithin written keeps contents log out st lag lines files new.log (inner_of new.out))) is sent), only)

-- the lines to which all answers were sent are some first ones of the input
pub stopped_sent : {T U : Type 0} (written keeps : T → Option (List ℕ)) (contents : U → Option (List ℕ)) (log out input left : Option (List ℕ)) (st : Setting) (lag : ℕ) (files : List File) (service : Service T U) (s : Stopped)
    → HasStopped written keeps contents log out input st lag left files service s → (lines : List (List ℕ)) × AreFirstLines input lines × HasSent written keeps contents log out st lag lines files service
stopped_sent written keeps contents log out input left st lag files service stopped.Ended (lines, ended, sent) = (lines, ended.0, sent)
stopped_sent written keeps contents log out input left st lag files service stopped.Filled (lines, read, sent) = (lines, first_lines input left lines read, sent)

-- one line more was read
pub read_more : (input before left : Option (List ℕ)) (line : List ℕ) (lines : List (List ℕ)) (result : Result Bool ServeFault) → result ≡ Ok true
    → IfOk result (λ some. MatchBool some (IsInputRead input left (lines ++ line ∷ [])) (AreAllLines input lines)) → IsInputRead input left (lines ++ line ∷ [])
read_more input before left line lines result is read = subst (λ r. IfOk r (λ some. MatchBool some (IsInputRead input left (lines ++ line ∷ [])) (AreAllLines input lines))) is read

-- or none was left
pub read_none : (input before left : Option (List ℕ)) (line : List ℕ) (lines : List (List ℕ)) (result : Result Bool ServeFault) → result ≡ Ok false
    → IfOk result (λ some. MatchBool some (IsInputRead input left (lines ++ line ∷ [])) (AreAllLines input lines)) → AreAllLines input lines
read_none input before left line lines result is read = subst (λ r. IfOk r (λ some. MatchBool some (IsInputRead input left (lines ++ line ∷ [])) (AreAllLines input lines))) is read
