-- A script, line after line.
use Rattle.std.proofs.Common.{◌≡◌, ℕ, ◌≤◌, Bool, true, false, List, [], ◌∷◌, ◌++◌, Option, inl, refl, sym, ap, subst, ◌∙◌, append_assoc, arith}
use Rattle.pc_types.specs.declared.Refusal.{Refusal}
use Rattle.std.specs.Prelude.{Result, Ok, Err, IfErr, if◌then◌else◌, ◌||◌, ⊤}
use Rattle.std.specs.Io.KnownBytes.{Appends}
use Rattle.std.proofs.lemmas.List.{append-nil}
use Rattle.pc_io.specs.Counted.{AppendsBeginning}
use Rattle.pc_types.specs.declared.Event.{Event}
use Rattle.pc_types.specs.declared.Reply.{Reply}
use Rattle.pc_model.specs.Maps.{empty, len}
use Rattle.pc_engine.specs.Store.{Store, setting_of}
use Rattle.pc_engine.specs.Stands.{Stands}
use Rattle.pc_model.specs.Database.{Database}
use Rattle.pc_model.specs.History.{History}
use Rattle.pc_model.specs.Replies.{Setting, IsLegal}
use Rattle.pc_io.proofs.KnownBytesLaws.{appends_nothing, appends_then, begins_after}
use Rattle.pc_lines.specs.declared.lines.Line.{Line}
use Rattle.pc_lines.specs.declared.lines.Line.TheVariants as line
use Rattle.pc_script.specs.declared.script.LineAnswer.{LineAnswer}
use Rattle.pc_script.specs.declared.script.LineAnswer.TheVariants as answer
use Rattle.pc_script.specs.declared.script.Made.{Made}
use Rattle.pc_script.specs.declared.script.Made.TheVariants as made
use Rattle.pc_script.specs.declared.script.Status.{Status}
use Rattle.pc_script.specs.declared.script.Status.TheVariants as status
use Rattle.pc_script.specs.declared.setup.Setup.{Setup}
use Rattle.pc_lines.specs.Lines.{lines_in, spelled}
use Rattle.pc_script.specs.Scripts.{ScriptStage, setting, AnswersLine, AnswersFirst, AnswersAtStage, answer_text, Prints, PrintsFrom, is_malformed, has_bad_line, script_status, IsScriptAnswered, IsAnsweredInPart}
use Rattle.pc_script.specs.Scripts.ScriptStage.{Reading, Running, Ended}
use Rattle.pc_script.specs.Holding.{StageHolds, IsSaid, IsSaidInPart, is_ended}
use Rattle.pc_texts.proofs.Begun.{whole_begins}

-- an event that is answered legally
pub asks : (st : Setting) (history : History) (l : Line) (event : Event) (reply : Reply) → l ≡ line.Asks event → IsLegal st history event reply
    → AnswersLine st history l (answer.Says reply) (record { event = event; reply = reply } ∷ history)
asks st history l event reply is legal = rw is (reply, legal, refl, refl)

-- the first line that a store answers
pub first_answered : (setup : Setup) (base : Database) (l : Line) (said : LineAnswer) (old new : Store) → (setting_of old ≡ setting setup base) × Stands old [] → setting_of new ≡ setting_of old
    → ((history : History) → Stands old history → (next : History) × Stands new next × AnswersLine (setting_of old) history l said next)
    → (x : ScriptStage) × StageHolds setup (made.Store new) x × AnswersFirst setup base l said x
first_answered setup base l said old new start same answers =
    let a = answers [] start.1 in
    (Running base a.0, (base, a.0, refl, same ∙ start.0, a.1), inl (a.0, subst (λ (st : Setting). AnswersLine st [] l said a.0) start.0 a.2, refl))

-- and each later one
pub store_answered : (setup : Setup) (m : Made) (l : Line) (said : LineAnswer) (old new : Store) → m ≡ made.Store old → setting_of new ≡ setting_of old
    → ((history : History) → Stands old history → (next : History) × Stands new next × AnswersLine (setting_of old) history l said next)
    → (stage : ScriptStage) → StageHolds setup m stage → (x : ScriptStage) × StageHolds setup (made.Store new) x × AnswersAtStage setup stage l said x
store_answered setup m l said old new is same answers stage h =
    let k = subst (λ (z : Made). StageHolds setup z stage) is h in
    let a = answers k.1 k.4 in (
      Running k.0 a.0,
      (k.0, a.0, refl, same ∙ k.3, a.1),
      subst (λ (z : ScriptStage). AnswersAtStage setup z l said (Running k.0 a.0)) (sym k.2) (a.0, subst (λ (st : Setting). AnswersLine st k.1 l said a.0) k.3 a.2, refl),
    )

-- a base of no pairs has room
pub empty_fits : (base : Database) (n : ℕ) → base ≡ empty → len base ≤ n
unfolding empty
empty_fits base n e = rw e (omega arith)

-- some lines, and then others
pub prints_then : (setup : Setup) (s t u : ScriptStage) (xs ys : List (List ℕ)) (x y : List ℕ) → Prints setup s xs x t → Prints setup t ys y u → Prints setup s (xs ++ ys) (x ++ y) u
prints_then setup s t u [] ys x y p q = rw p.0 (subst (λ (z : ScriptStage). Prints setup z ys y u) p.1 q)
prints_then setup s t u (l ∷ xs) ys x y p q =
    (p.0, p.1, p.2 ++ y, p.3, ap (λ (z : List ℕ). z ++ y) p.4 ∙ append_assoc (answer_text p.0) p.2 y, prints_then setup p.1 t u xs ys p.2 y p.5 q)

-- one line
pub prints_one : (setup : Setup) (s t : ScriptStage) (l : List ℕ) (said : LineAnswer) → AnswersAtStage setup s (spelled l) said t → Prints setup s (l ∷ []) (answer_text said) t
prints_one setup s t l said a = (said, t, [], a, sym (append-nil (answer_text said)), (refl, refl))

-- nothing is printed once there is no store
pub prints_nothing : (setup : Setup) (lines : List (List ℕ)) → Prints setup Ended lines [] Ended
prints_nothing setup [] = (refl, refl)
prints_nothing setup (l ∷ lines) = (answer.Nothing, Ended, [], (refl, refl), refl, prints_nothing setup lines)

-- what a bad line does to the status
abbrev pub status_after : Bool → Status
status_after true = status.BadLines
status_after false = status.Done

-- a stage at which a store is or may still be made
abbrev pub Goes : ScriptStage → Type 0
Goes (Reading base) = ⊤
Goes (Running base history) = ⊤
Goes Ended = ⊥

-- what is known between two lines
pub record SoFar (setup : Setup) (old new : Option (List ℕ)) (m : Made) (st : Status) (all left : List (List ℕ)) : Type 0 where
  pub done : List (List ℕ)
  pub text : List ℕ
  pub stage : ScriptStage
  pub cut : done ++ left ≡ all
  pub prints : PrintsFrom setup done text stage
  pub sent : Appends old new text
  pub holds : StageHolds setup m stage
  pub goes : Goes stage
  pub status : st ≡ status_after (has_bad_line done)

goes_from : (setup : Setup) (m : Made) (stage : ScriptStage) → StageHolds setup m stage → is_ended m ≡ false → Goes stage
goes_from setup (made.Base pairs) stage h e = rw h tt
goes_from setup (made.Store world) stage h e = rw h.2 tt
goes_from setup made.Ended stage h e = absurd cc

ended_from : (setup : Setup) (m : Made) (stage : ScriptStage) → StageHolds setup m stage → is_ended m ≡ true → stage ≡ Ended
ended_from setup (made.Base pairs) stage h e = absurd cc
ended_from setup (made.Store world) stage h e = absurd cc
ended_from setup made.Ended stage h e = h

swap : (a b c : Bool) → (a || (b || c)) ≡ (b || (a || c))
swap true true c = refl
swap true false c = refl
swap false b c = refl

has_bad_line-then : (xs : List (List ℕ)) (l : List ℕ) → has_bad_line (xs ++ l ∷ []) ≡ (is_malformed (spelled l) || has_bad_line xs)
has_bad_line-then [] l = refl
has_bad_line-then (x ∷ xs) l = ap (λ (z : Bool). is_malformed (spelled x) || z) (has_bad_line-then xs l) ∙ swap (is_malformed (spelled x)) (is_malformed (spelled l)) (has_bad_line xs)

status_more : (b c : Bool) → (if b then status.BadLines else status_after c) ≡ status_after (b || c)
status_more true c = refl
status_more false c = refl

as_status : (b : Bool) → status_after b ≡ (if b then status.BadLines else status.Done)
as_status true = refl
as_status false = refl

goes_status : (stage : ScriptStage) (lines : List (List ℕ)) → Goes stage → status_after (has_bad_line lines) ≡ script_status stage lines
goes_status (Reading base) lines g = as_status (has_bad_line lines)
goes_status (Running base history) lines g = as_status (has_bad_line lines)
goes_status Ended lines g = absurd g

-- before the first line
pub nothing_yet : (setup : Setup) (a : Option (List ℕ)) (base : Database) (all : List (List ℕ)) → base ≡ empty → SoFar setup a a (made.Base base) status.Done all all
nothing_yet setup a base all e = record {
  done = [];
  text = [];
  stage = Reading empty;
  cut = refl;
  prints = (refl, refl);
  sent = appends_nothing a;
  holds = ap Reading (sym e);
  goes = tt;
  status = refl;
}

at_line : (setup : Setup) (m m' : Made) (w : Line) (l : List ℕ) (b c : Option (List ℕ)) → w ≡ spelled l → IsSaid setup m w m' (λ text. Appends b c text) → IsSaid setup m (spelled l) m' (λ text. Appends b c text)
at_line setup m m' w l b c is answered = subst (λ (z : Line). IsSaid setup m z m' (λ text. Appends b c text)) is answered

at_line_in_part : (setup : Setup) (m : Made) (w : Line) (l : List ℕ) (b c : Option (List ℕ)) → w ≡ spelled l → IsSaidInPart setup m w (λ text. AppendsBeginning b c text)
    → IsSaidInPart setup m (spelled l) (λ text. AppendsBeginning b c text)
at_line_in_part setup m w l b c is answered = subst (λ (z : Line). IsSaidInPart setup m z (λ text. AppendsBeginning b c text)) is answered

-- the lines that the loop goes over are those of the script
pub at_lines : (setup : Setup) (script : List ℕ) (old b : Option (List ℕ)) (m : Made) (st : Status) (all left : List (List ℕ)) → all ≡ lines_in script → SoFar setup old b m st all left → SoFar setup old b m st (lines_in script) left
at_lines setup script old b m st all left e h = subst (λ (z : List (List ℕ)). SoFar setup old b m st z left) e h

-- what is said of an error whatever it is
pub in_err : {A P : Type 0} (r : Result A Refusal) → P → IfErr r (λ e. P)
in_err (Ok s) p = tt
in_err (Err e) p = p

-- one more line
pub goes_on : (setup : Setup) (old b c : Option (List ℕ)) (m m' : Made) (st st' : Status) (all left lines : List (List ℕ)) (l : List ℕ) (w : Line) (h : SoFar setup old b m st all left)
    → left ≡ l ∷ lines → w ≡ spelled l → IsSaid setup m w m' (λ text. Appends b c text) → is_ended m' ≡ false
    → st' ≡ (if is_malformed w then status.BadLines else st) → SoFar setup old c m' st' all lines
goes_on setup old b c m m' st st' all left lines l w h first is answered e is_status =
    let a = at_line setup m m' w l b c is answered h.stage h.holds in record {
      done = h.done ++ l ∷ [];
      text = h.text ++ answer_text a.0;
      stage = a.1;
      cut = append_assoc h.done (l ∷ []) lines ∙ ap (λ (z : List (List ℕ)). h.done ++ z) (sym first) ∙ h.cut;
      prints = prints_then setup _ h.stage a.1 h.done (l ∷ []) h.text (answer_text a.0) h.prints (prints_one setup h.stage a.1 l a.0 a.3);
      sent = appends_then old b c h.text (answer_text a.0) h.sent a.4;
      holds = a.2;
      goes = goes_from setup m' a.1 a.2 e;
      status = is_status ∙ ap (λ (z : Line). if is_malformed z then status.BadLines else st) is ∙ ap (λ (z : Status). if is_malformed (spelled l) then status.BadLines else z) h.status ∙ status_more (is_malformed (spelled l)) (has_bad_line h.done) ∙ ap status_after (sym (has_bad_line-then h.done l));
    }

-- the script stops before a line
pub stops_before : (setup : Setup) (script : List ℕ) (old b : Option (List ℕ)) (m : Made) (st : Status) (left : List (List ℕ)) → SoFar setup old b m st (lines_in script) left
    → (text : List ℕ) × AppendsBeginning old b text × IsAnsweredInPart setup script text
stops_before setup script old b m st left h = (h.text, whole_begins old b h.text h.sent, (h.done, left, h.stage, h.cut, h.prints))

-- or within the text of its answer
pub stops_within : (setup : Setup) (script : List ℕ) (old b c : Option (List ℕ)) (m : Made) (st : Status) (left lines : List (List ℕ)) (l : List ℕ) (w : Line) → SoFar setup old b m st (lines_in script) left
    → left ≡ l ∷ lines → w ≡ spelled l → IsSaidInPart setup m w (λ text. AppendsBeginning b c text) → (text : List ℕ) × AppendsBeginning old c text × IsAnsweredInPart setup script text
stops_within setup script old b c m st left lines l w h first is answered =
    let a = at_line_in_part setup m w l b c is answered h.stage h.holds in (
      h.text ++ answer_text a.0,
      begins_after old b c h.text (answer_text a.0) h.sent a.3,
      (
        h.done ++ l ∷ [],
        lines,
        a.1,
        append_assoc h.done (l ∷ []) lines ∙ ap (λ (z : List (List ℕ)). h.done ++ z) (sym first) ∙ h.cut,
        prints_then setup _ h.stage a.1 h.done (l ∷ []) h.text (answer_text a.0) h.prints (prints_one setup h.stage a.1 l a.0 a.2),
      ),
    )

-- or after a line at which the store couldn't be made
pub ends_early : (setup : Setup) (script : List ℕ) (old b c : Option (List ℕ)) (m m' : Made) (st : Status) (left lines : List (List ℕ)) (l : List ℕ) (w : Line) → SoFar setup old b m st (lines_in script) left
    → left ≡ l ∷ lines → w ≡ spelled l → IsSaid setup m w m' (λ text. Appends b c text) → is_ended m' ≡ true → (text : List ℕ) × Appends old c text × IsScriptAnswered setup script status.NoStore text
ends_early setup script old b c m m' st left lines l w h first is answered e =
    let a = at_line setup m m' w l b c is answered h.stage h.holds in
    let is_last = ended_from setup m' a.1 a.2 e in
    let one = prints_one setup h.stage Ended l a.0 (subst (λ (z : ScriptStage). AnswersAtStage setup h.stage (spelled l) a.0 z) is_last a.3) in
    let others = prints_then setup h.stage Ended Ended (l ∷ []) lines (answer_text a.0) [] one (prints_nothing setup lines) in
    let all = prints_then setup (Reading empty) h.stage Ended h.done (l ∷ lines) h.text (answer_text a.0 ++ []) h.prints others in
    let cut : h.done ++ (l ∷ lines) ≡ lines_in script = ap (λ (z : List (List ℕ)). h.done ++ z) (sym first) ∙ h.cut in (
      h.text ++ (answer_text a.0 ++ []),
      rw append-nil (appends_then old b c h.text (answer_text a.0) h.sent a.4),
      (Ended, subst (λ (z : List (List ℕ)). PrintsFrom setup z (h.text ++ (answer_text a.0 ++ [])) Ended) cut all, refl),
    )

-- or at its end
pub ends : (setup : Setup) (script : List ℕ) (old b : Option (List ℕ)) (m : Made) (st : Status) (left : List (List ℕ)) → left ≡ [] → SoFar setup old b m st (lines_in script) left
    → (text : List ℕ) × Appends old b text × IsScriptAnswered setup script st text
ends setup script old b m st left none h =
    let cut : h.done ≡ lines_in script = sym (append-nil h.done) ∙ ap (λ (z : List (List ℕ)). h.done ++ z) (sym none) ∙ h.cut in (
      h.text,
      h.sent,
      (
        h.stage,
        subst (λ (z : List (List ℕ)). PrintsFrom setup z h.text h.stage) cut h.prints,
        h.status ∙ ap (λ (z : List (List ℕ)). status_after (has_bad_line z)) cut ∙ goes_status h.stage (lines_in script) h.goes,
      ),
    )
