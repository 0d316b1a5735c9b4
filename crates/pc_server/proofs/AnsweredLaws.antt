-- What a line that went out tells of the commit that it names.
use Rattle.std.proofs.Common.{◌≡◌, ◌≢◌, ℕ, ◌+◌, ◌%◌, ◌^◌, ◌≤◌, ◌<◌, ◌⊎◌, inl, inr, Bool, true, false, List, [], ◌∷◌, ◌++◌, length, append-nil, append_assoc, refl, sym, ap, subst, ◌∙◌, arith}
use Rattle.std.specs.Prelude.{⊤, codes, decimal, Option, Some, None, MatchBool, MatchOption}
use Rattle.std.proofs.lemmas.List.{append_cancel_left, length-append}
use Rattle.std.proofs.lemmas.Fmt.{decimal_by_steps, decimal_injective}
use Rattle.pc_types.specs.declared.Entry.TheVariants.{Commit}
use Rattle.pc_types.specs.declared.Event.{Event}
use Rattle.pc_types.specs.declared.Event.TheVariants as asked
use Rattle.pc_types.specs.declared.Reply.{Reply}
use Rattle.pc_types.specs.declared.Reply.TheVariants as told
use Rattle.pc_types.specs.declared.Refusal.{Refusal}
use Rattle.pc_types.specs.declared.Refusal.TheVariants as why
use Rattle.pc_model.specs.Files.{File, BaseFile}
use Rattle.pc_model.specs.Files as files
use Rattle.pc_model.specs.LaidFiles.{laid_file}
use Rattle.pc_model.specs.History.{History, log_of, writes_of}
use Rattle.pc_model.specs.Replies.{Setting, IsLegal, first_refusal, log_is_full, transaction_causes}
use Rattle.pc_model.proofs.EffectLaws.{first_refusal_refuses}
use Rattle.pc_model.proofs.ReplyKindLaws.{reply_kind}
use Rattle.pc_part.specs.Joins.{first_cause}
use Rattle.pc_bases.specs.Layings.{lay_causes}
use Rattle.pc_lines.specs.declared.lines.Line.{Line}
use Rattle.pc_lines.specs.declared.lines.Line.TheVariants as line
use Rattle.pc_lines.specs.declared.lines.View.{View}
use Rattle.pc_lines.specs.declared.lines.View.TheVariants as view
use Rattle.pc_script.specs.declared.script.LineAnswer.{LineAnswer}
use Rattle.pc_script.specs.declared.script.LineAnswer.TheVariants as answer
use Rattle.pc_script.specs.Scripts.{answer_text}
use Rattle.pc_script.specs.Views.{AnswersView, ShowsState, ShowsText, base_of}
use Rattle.pc_texts.specs.Texts.{reply_text}
use Rattle.pc_serving.specs.Requests.{request_of}
use Rattle.pc_serving.specs.Serving.{AnswersServed, granted_text, is_of_client, wrong_phase_text}
use Rattle.pc_serving.specs.declared.request.Request.{Request}
use Rattle.pc_serving.specs.declared.request.Request.TheVariants as request
use Rattle.pc_server.specs.Acts.{Act, Lead, AnswersRequest, answers_of}
use Rattle.pc_server.specs.Acts.Act.{Answered, WentOn}
use Rattle.pc_server.specs.Answered.{IsCommitAnswered, IsCommitEntry, committed_line}
use Rattle.pc_server.proofs.ServerLaws.{Extends, answer_extends, answers_on, step_extends}

-- the first byte
abbrev first : List ℕ → ℕ
first [] = 0
first (b ∷ bs) = b

-- and the one after it
abbrev second : List ℕ → ℕ
second [] = 0
second (b ∷ bs) = first bs

-- no byte is a line feed
abbrev IsOneLine : List ℕ → Type 0
IsOneLine [] = ⊤
IsOneLine (b ∷ bs) = (b ≢ 10) × IsOneLine bs

head_is : (x y : ℕ) (xs ys : List ℕ) → x ∷ xs ≡ y ∷ ys → x ≡ y
head_is x y xs ys e = ap first e

tail_is : (x y : ℕ) (xs ys : List ℕ) → x ∷ xs ≡ y ∷ ys → xs ≡ ys
tail_is x y xs ys e = cc

-- two texts that begin with a line begin with the same one
same_line : (x y a b : List ℕ) → IsOneLine x → IsOneLine y → x ++ 10 ∷ a ≡ y ++ 10 ∷ b → x ≡ y
same_line [] [] a b p q e = refl
same_line [] (y ∷ ys) a b p q e = absurd (q.0 (sym (head_is 10 y a (ys ++ 10 ∷ b) e)))
same_line (x ∷ xs) [] a b p q e = absurd (p.0 (head_is x 10 (xs ++ 10 ∷ a) b e))
same_line (x ∷ xs) (y ∷ ys) a b p q e =
    let rest : xs ≡ ys = same_line xs ys a b p.1 q.1 (tail_is x y (xs ++ 10 ∷ a) (ys ++ 10 ∷ b) e) in
    ap (λ t. x ∷ t) rest ∙ ap (λ c. c ∷ ys) (head_is x y (xs ++ 10 ∷ a) (ys ++ 10 ∷ b) e)

one_more : (ds : List ℕ) (b : ℕ) → b ≢ 10 → IsOneLine ds → IsOneLine (ds ++ b ∷ [])
one_more [] b differs all = (differs, tt)
one_more (d ∷ ds) b differs all = (all.0, one_more ds b differs all.1)

digit : (n : ℕ) → 48 + n ≢ 10
digit n = λ e. omega (arith, e)

decimal_line : (n : ℕ) → n < 2 ^ 64 → IsOneLine (decimal n)
decimal_line n fits = decimal_by_steps (λ m ds. IsOneLine ds) (λ m low. (digit m, tt)) (λ m ds high all. one_more ds (48 + m % 10) (digit (m % 10)) all) n fits

-- lines of commits that begin one text are those of one number
same_number : (m n : ℕ) (a b : List ℕ) → m < 2 ^ 64 → n < 2 ^ 64 → committed_line m ++ a ≡ committed_line n ++ b → m ≡ n
same_number m n a b fits_m fits_n e =
    let word = codes "committed " in
    let line : (k : ℕ) (c : List ℕ) → committed_line k ++ c ≡ word ++ (decimal k ++ 10 ∷ c) = λ k c. append_assoc (word ++ decimal k) (codes "\n") c ∙ append_assoc word (decimal k) (codes "\n" ++ c) in
    let rest : decimal m ++ 10 ∷ a ≡ decimal n ++ 10 ∷ b = append_cancel_left word _ _ (sym (line m a) ∙ (e ∙ line n b)) in
    decimal_injective m n fits_m fits_n (same_line (decimal m) (decimal n) a b (decimal_line m fits_m) (decimal_line n fits_n) rest)

-- a commit that the log has, it has when it goes on
pub commit_stays : (before after : History) (n : ℕ) → Extends before after → IsCommitEntry (log_of before) n → IsCommitEntry (log_of after) n
commit_stays before after n (more, e) (front, back, session, writes, is, place) =
    (front, back ++ more, session, writes, e ∙ ap (λ l. l ++ more) is ∙ append_assoc front (Commit session writes ∷ back) more, place)

-- what is certain of a commit isn't that it is committed
not_certain : (causes : List (Bool × Refusal)) (n : ℕ) (Answer : Type 0) → MatchOption (first_refusal causes) (Answer ⊎ (told.Committed n ≡ told.Refused why.OutOfMemory)) (λ due. told.Committed n ≡ due) → Answer
not_certain causes n Answer legal = by (first_refusal causes) (first_refusal_refuses causes) legal
  where
    by : (due : Option Reply) → Rattle.std.specs.Prelude.IfSome due (λ d. (r : Refusal) × (d ≡ told.Refused r)) → MatchOption due (Answer ⊎ (told.Committed n ≡ told.Refused why.OutOfMemory)) (λ d. told.Committed n ≡ d) → Answer
    by None p (inl is) = is
    by None p (inr e) = absurd (cc (e))
    by (Some d) (r, is) e = absurd (cc (e, is))

same_told : (m n : ℕ) → told.Committed m ≡ told.Committed n → m ≡ n
same_told m n e = cc

-- a reply that tells of a commit is that of one, and its number is that of its entry
committed_entry : (st : Setting) (before : History) (event : Event) (m : ℕ) → IsLegal st before event (told.Committed m) → IsCommitEntry (log_of (record { event = event; reply = told.Committed m } ∷ before)) m
committed_entry st before (asked.Commit s) m legal =
    let reply : told.Committed m ≡ told.Committed (length (log_of before) + 1) =
    not_certain (transaction_causes st s before ++ (log_is_full before, why.LogFull) ∷ []) m (told.Committed m ≡ told.Committed (length (log_of before) + 1)) legal in
    let number : m ≡ length (log_of before) + 1 = same_told m (length (log_of before) + 1) reply in
    (log_of before, [], s, writes_of s before, refl, number)
committed_entry st before (asked.Begin s) m legal = absurd (reply_kind st before (asked.Begin s) (told.Committed m) legal)
committed_entry st before (asked.Get s key) m legal = absurd (reply_kind st before (asked.Get s key) (told.Committed m) legal)
committed_entry st before (asked.Put s key value) m legal = absurd (reply_kind st before (asked.Put s key value) (told.Committed m) legal)
committed_entry st before (asked.Del s key) m legal = absurd (reply_kind st before (asked.Del s key) (told.Committed m) legal)
committed_entry st before (asked.Add s key delta) m legal = absurd (reply_kind st before (asked.Add s key delta) (told.Committed m) legal)
committed_entry st before (asked.Abort s) m legal = absurd (reply_kind st before (asked.Abort s) (told.Committed m) legal)
committed_entry st before asked.StartPoint m legal = absurd (reply_kind st before asked.StartPoint (told.Committed m) legal)
committed_entry st before asked.Seal m legal = absurd (reply_kind st before asked.Seal (told.Committed m) legal)
committed_entry st before asked.OpenCapture m legal = absurd (reply_kind st before asked.OpenCapture (told.Committed m) legal)
committed_entry st before asked.Take m legal = absurd (reply_kind st before asked.Take (told.Committed m) legal)
committed_entry st before asked.Done m legal = absurd (reply_kind st before asked.Done (told.Committed m) legal)
committed_entry st before asked.Rest m legal = absurd (reply_kind st before asked.Rest (told.Committed m) legal)
committed_entry st before (asked.Join a b) m legal = absurd (reply_kind st before (asked.Join a b) (told.Committed m) legal)

-- one of the kinds that are shown
abbrev IsShown : LineAnswer → Type 0
IsShown answer.Nothing = ⊥
IsShown answer.BadLine = ⊥
IsShown (answer.Says (told.Refused w)) = ⊤
IsShown (answer.Says other) = ⊥
IsShown (answer.State base) = ⊤
IsShown (answer.Text text) = ⊤
IsShown (answer.Check sound) = ⊤

is_shown : (said wanted : LineAnswer) → said ≡ wanted → IsShown wanted → IsShown said
is_shown said wanted e shown = subst IsShown (sym e) shown

state_shown : (base : BaseFile) (said : LineAnswer) (due : Option Refusal) (laid : BaseFile)
    → MatchOption due ((said ≡ answer.State laid) ⊎ (said ≡ answer.Says (told.Refused why.OutOfMemory))) (λ w. said ≡ answer.Says (told.Refused w)) → IsShown said
state_shown base said None laid (inl e) = is_shown said (answer.State laid) e tt
state_shown base said None laid (inr e) = is_shown said (answer.Says (told.Refused why.OutOfMemory)) e tt
state_shown base said (Some w) laid e = is_shown said (answer.Says (told.Refused w)) e tt

view_shown : (st : Setting) (h : History) (v : View) (said : LineAnswer) → AnswersView st h v said → IsShown said
view_shown st h (view.State number) said shows = by (files.file_at (files.shelf st.run h) number) shows
  where
    by : (o : Option File) → MatchOption o (said ≡ answer.Says (told.Refused why.NoFile)) (ShowsState (base_of st) said) → IsShown said
    by None e = is_shown said (answer.Says (told.Refused why.NoFile)) e tt
    by (Some file) e = state_shown (base_of st) said (first_cause (lay_causes (base_of st) file)) (laid_file (base_of st) file) e
view_shown st h (view.Text number) said shows = by (files.file_at (files.shelf st.run h) number) shows
  where
    by_text : (file : File) → ShowsText said file → IsShown said
    by_text file (inl e) = subst IsShown (sym e) tt
    by_text file (inr e) = subst IsShown (sym e) tt

    by : (o : Option File) → MatchOption o (said ≡ answer.Says (told.Refused why.NoFile)) (ShowsText said) → IsShown said
    by None e = is_shown said (answer.Says (told.Refused why.NoFile)) e tt
    by (Some file) e = by_text file e
view_shown st h view.Check said (inl e) = is_shown said (answer.Check true) e tt
view_shown st h view.Check said (inr e) = is_shown said (answer.Says (told.Refused why.OutOfMemory)) e tt

-- an earlier log is no longer
shorter : (before after : History) → Extends before after → length (log_of after) < 2 ^ 64 → length (log_of before) < 2 ^ 64
shorter before after (more, e) few = omega (arith, few, ap length e, length-append (log_of before) more)

-- acts, and those before them
lead_apart : (st : Setting) (start history : History) (gone turn : List Act) → Lead st start (turn ++ gone) history → (at : History) × Lead st start gone at × Lead st at turn history
lead_apart st start history gone [] led = (history, led, refl)
lead_apart st start history gone (Answered line text ∷ turn) (between, led, told) = let (at, first_led, then_led) = lead_apart st start between gone turn led in (at, first_led, (between, then_led, told))
lead_apart st start history gone (WentOn step ∷ turn) (between, led, is, legal, e) = let (at, first_led, then_led) = lead_apart st start between gone turn led in (at, first_led, (between, then_led, is, legal, e))

module _ (st : Setting) (after : History) (n : ℕ) (fits : n < 2 ^ 64) (few : length (log_of after) < 2 ^ 64) (y : List ℕ) where
  -- the text is none, or the log has the commit of this number
  abbrev Tells : List ℕ → Type 0
  Tells text = (text ≡ []) ⊎ IsCommitEntry (log_of after) n

  -- a text that begins with another byte isn't the line
  other : (text x : List ℕ) (b : ℕ) → first (text ++ x) ≡ b → b ≢ 99 → text ++ x ≡ committed_line n ++ y → Tells text
  other text x b is differs e = absurd (differs (sym is ∙ ap first e))

  -- the reply to an event
  reply_tells : (before : History) (event : Event) (reply : Reply) (granted x : List ℕ) → IsLegal st before event reply → after ≡ record { event = event; reply = reply } ∷ before
      → ((reply_text reply ++ codes "\n") ++ granted) ++ x ≡ committed_line n ++ y → Tells ((reply_text reply ++ codes "\n") ++ granted)
  reply_tells before event (told.Committed m) granted x legal is e =
      let entry : IsCommitEntry (log_of after) m = subst (λ h. IsCommitEntry (log_of h) m) (sym is) (committed_entry st before event m legal) in
      let (front, back, session, writes, log, place) = entry in
      let within : m ≤ length (log_of after) = omega (arith, place, ap length log, length-append front (Commit session writes ∷ back)) in
      let small : m < 2 ^ 64 = omega (arith, within, few) in
      let same : m ≡ n = same_number m n (granted ++ x) y small fits (sym (append_assoc (committed_line m) granted x) ∙ e) in
      inr (subst (IsCommitEntry (log_of after)) same entry)
  reply_tells before event (told.Begun t) granted x legal is e = other _ x 98 refl (λ same. omega (arith, same)) e
  reply_tells before event (told.Found value) granted x legal is e = other _ x 61 refl (λ same. omega (arith, same)) e
  reply_tells before event told.Absent granted x legal is e = other _ x 97 refl (λ same. omega (arith, same)) e
  reply_tells before event told.Ok granted x legal is e = other _ x 111 refl (λ same. omega (arith, same)) e
  reply_tells before event (told.Sum sum) granted x legal is e = other _ x 115 refl (λ same. omega (arith, same)) e
  reply_tells before event told.Wait granted x legal is e = other _ x 119 refl (λ same. omega (arith, same)) e
  reply_tells before event told.Died granted x legal is e = other _ x 100 refl (λ same. omega (arith, same)) e
  reply_tells before event told.Aborted granted x legal is e = other _ x 97 refl (λ same. omega (arith, same)) e
  reply_tells before event (told.Phase phase point) granted x legal is e = other _ x 112 refl (λ same. omega (arith, same)) e
  reply_tells before event (told.NotYet count) granted x legal is e = other _ x 110 refl (λ same. omega (arith, same)) e
  reply_tells before event (told.Took key value) granted x legal is e = other _ x 116 refl (λ same. omega (arith, same)) e
  reply_tells before event told.NoneLeft granted x legal is e = other _ x 110 refl (λ same. omega (arith, same)) e
  reply_tells before event (told.PartDone point file entries) granted x legal is e = other _ x 112 refl (λ same. omega (arith, same)) e
  reply_tells before event (told.File file points entries) granted x legal is e = other _ x 102 refl (λ same. omega (arith, same)) e
  reply_tells before event (told.Refused why) granted x legal is e = other _ x 114 refl (λ same. omega (arith, same)) e

  -- a refusal
  refusal_tells : (w : Refusal) (text x : List ℕ) → text ≡ answer_text (answer.Says (told.Refused w)) → text ++ x ≡ committed_line n ++ y → Tells text
  refusal_tells w text x is e = other text x 114 (ap (λ t. first (t ++ x)) is) (λ same. omega (arith, same)) e

  -- a check
  check_tells : (text x : List ℕ) → second (text ++ x) ≡ 104 → text ++ x ≡ committed_line n ++ y → Tells text
  check_tells text x is e = absurd (let same : 104 ≡ 111 = sym is ∙ ap second e in omega (arith, same))

  -- what is shown
  shown_tells : (said : LineAnswer) (text x : List ℕ) → IsShown said → text ≡ answer_text said → text ++ x ≡ committed_line n ++ y → Tells text
  shown_tells answer.Nothing text x shown is e = absurd shown
  shown_tells answer.BadLine text x shown is e = absurd shown
  shown_tells (answer.Says (told.Refused w)) text x shown is e = refusal_tells w text x is e
  shown_tells (answer.Says other) text x shown is e = absurd shown
  shown_tells (answer.State base) text x shown is e = other text x 115 (ap (λ t. first (t ++ x)) is) (λ same. omega (arith, same)) e
  shown_tells (answer.Text bytes) text x shown is e = other text x 116 (ap (λ t. first (t ++ x)) is) (λ same. omega (arith, same)) e
  shown_tells (answer.Check true) text x shown is e = check_tells text x (ap (λ t. second (t ++ x)) is) e
  shown_tells (answer.Check false) text x shown is e = check_tells text x (ap (λ t. second (t ++ x)) is) e

  -- what a line of a script is answered
  line_tells : (before : History) (l : Line) (text x : List ℕ) → AnswersServed st before l text after → text ++ x ≡ committed_line n ++ y → Tells text
  line_tells before (line.Asks event) text x a e = by (is_of_client event) a
    where
      by : (b : Bool) → MatchBool b
          ((reply : Reply) × IsLegal st before event reply × (after ≡ record { event = event; reply = reply } ∷ before) × (text ≡ (reply_text reply ++ codes "\n") ++ granted_text st (record { event = event; reply = reply }) before))
          ((text ≡ wrong_phase_text) × (after ≡ before))
          → Tells text
      by true (reply, legal, is, t) =
          subst Tells (sym t) (reply_tells before event reply (granted_text st (record { event = event; reply = reply }) before) x legal is (sym (ap (λ u. u ++ x) t) ∙ e))
      by false (t, is) = refusal_tells why.WrongPhase text x t e
  line_tells before line.Silent text x (said, (s, is), t) e = inl (t ∙ ap answer_text s)
  line_tells before line.Malformed text x (said, (s, is), t) e = other text x 98 (ap (λ u. first (u ++ x)) (t ∙ ap answer_text s)) (λ same. omega (arith, same)) e
  line_tells before (line.Sets key value) text x (said, (s, is), t) e = refusal_tells why.WrongPhase text x (t ∙ ap answer_text s) e
  line_tells before (line.SetsRefused w) text x (said, (s, is), t) e = refusal_tells w text x (t ∙ ap answer_text s) e
  line_tells before (line.AsksRefused w) text x (said, (s, is), t) e = refusal_tells w text x (t ∙ ap answer_text s) e
  line_tells before (line.Shows v) text x (said, (shows, is), t) e = shown_tells said text x (view_shown st before v said shows) t e

  -- what a request is answered
  pub request_tells : (before : History) (asked : Request) (text x : List ℕ) → AnswersRequest st before asked text after → text ++ x ≡ committed_line n ++ y → Tells text
  request_tells before (request.Line l) text x a e = line_tells before l text x a e
  request_tells before request.Run text x (t, is) e = other text x 114 (ap (λ u. first (u ++ x)) t) (λ same. omega (arith, same)) e
  request_tells before request.Stats text x (t, is) e = other text x 101 (ap (λ u. first (u ++ x)) t) (λ same. omega (arith, same)) e
  request_tells before request.Quit text x (t, is) e = inl t

-- a line that comes first in the answers of some acts is that of a commit
acts_tell : (st : Setting) (from to : History) (acts : List Act) (n : ℕ) (x y : List ℕ) → n < 2 ^ 64 → length (log_of to) < 2 ^ 64 → Lead st from acts to → answers_of acts ++ x ≡ committed_line n ++ y
    → (answers_of acts ≡ []) ⊎ IsCommitEntry (log_of to) n
acts_tell st from to [] n x y fits few led e = inl refl
acts_tell st from to (WentOn step ∷ acts) n x y fits few (between, led, is, legal, after) e =
    let on : Extends between to = subst (Extends between) (sym after) (step_extends step between) in
    goes_on between on (acts_tell st from between acts n x y fits (shorter between to on few) led e)
  where
    goes_on : (between : History) → Extends between to → (answers_of acts ≡ []) ⊎ IsCommitEntry (log_of between) n → (answers_of acts ≡ []) ⊎ IsCommitEntry (log_of to) n
    goes_on between on (inl none) = inl none
    goes_on between on (inr entry) = inr (commit_stays between to n on entry)
acts_tell st from to (Answered line text ∷ acts) n x y fits few (between, led, told) e =
    let on : Extends between to = answer_extends st between to (request_of line) text told in
    goes_on between on told (acts_tell st from between acts n (text ++ x) y fits (shorter between to on few) led (sym (append_assoc (answers_of acts) text x) ∙ e))
  where
    both : answers_of acts ≡ [] → (text ≡ []) ⊎ IsCommitEntry (log_of to) n → (answers_of acts ++ text ≡ []) ⊎ IsCommitEntry (log_of to) n
    both none (inl empty) = inl (ap (λ t. t ++ text) none ∙ empty)
    both none (inr entry) = inr entry

    goes_on : (between : History) → Extends between to → AnswersRequest st between (request_of line) text to → (answers_of acts ≡ []) ⊎ IsCommitEntry (log_of between) n → (answers_of acts ++ text ≡ []) ⊎ IsCommitEntry (log_of to) n
    goes_on between on told (inl none) =
        both none (request_tells st to n fits few y between (request_of line) text x told (sym (ap (λ t. t ++ (text ++ x)) none) ∙ (sym (append_assoc (answers_of acts) text x) ∙ e)))
    goes_on between on told (inr entry) = inr (commit_stays between to n on entry)

-- Of acts whose answers were sent in part, a line that went out whole is that of a commit.
pub answered_entry : (st : Setting) (at : History) (gone : List Act) (sent more : List ℕ) (n : ℕ) → n < 2 ^ 64 → length (log_of at) < 2 ^ 64 → Lead st [] gone at → answers_of gone ≡ sent ++ more → IsCommitAnswered gone sent n → IsCommitEntry (log_of at) n
answered_entry st at gone sent more n fits few led all (later, earlier, rest, these, is) =
    let split = lead_apart st [] at earlier later (subst (λ acts. Lead st [] acts at) these led) in
    let whole : answers_of earlier ++ answers_of later ≡ answers_of earlier ++ (committed_line n ++ (rest ++ more)) =
    sym (answers_on earlier later) ∙ (sym (ap answers_of these) ∙ (all ∙ (ap (λ t. t ++ more) is ∙ (append_assoc (answers_of earlier) (committed_line n ++ rest) more ∙ ap (λ t. answers_of earlier ++ t) (append_assoc (committed_line n) rest more))))) in
    let line : answers_of later ≡ committed_line n ++ (rest ++ more) = append_cancel_left (answers_of earlier) (answers_of later) (committed_line n ++ (rest ++ more)) whole in
    by line (acts_tell st split.0 at later n [] (rest ++ more) fits few split.2 (append-nil (answers_of later) ∙ line))
  where
    by : answers_of later ≡ committed_line n ++ (rest ++ more) → (answers_of later ≡ []) ⊎ IsCommitEntry (log_of at) n → IsCommitEntry (log_of at) n
    by line (inl none) = absurd (let same : 0 ≡ 99 = ap first (sym none ∙ line) in omega (arith, same))
    by line (inr entry) = entry
