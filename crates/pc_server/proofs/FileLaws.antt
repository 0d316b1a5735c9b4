-- The files of points, turn by turn.
use Rattle.std.proofs.Common.{◌≡◌, ◌≢◌, ℕ, zero, suc, ◌+◌, ◌-◌, ◌≤◌, ◌⊎◌, inl, inr, eqb, Bool, true, false, cond, List, [], ◌∷◌, ◌++◌, length, append-nil, Some, None, refl, sym, ap, subst, ◌∙◌, arith}
use Rattle.std.specs.Prelude.{⊤, codes, Contains, Result, Ok, Err, OnOk, MatchResult, MatchBool, slice_get}
use Rattle.std.proofs.lemmas.Bool.Decides.{nat_tests}
use Rattle.std.proofs.lemmas.List.Elements.{Contains-get_or}
use Rattle.std.proofs.lemmas.Option.{get_or_from_slice_get, slice_get_within}
use Rattle.pc_types.specs.declared.Event.{Event}
use Rattle.pc_types.specs.declared.Event.TheVariants as asked
use Rattle.pc_types.specs.declared.Reply.{Reply}
use Rattle.pc_types.specs.declared.Reply.TheVariants as told
use Rattle.pc_types.specs.declared.Refusal.{Refusal}
use Rattle.pc_types.specs.declared.Step.{Step}
use Rattle.pc_model.specs.Maps as map_of
use Rattle.pc_model.specs.Sets as set
use Rattle.pc_model.specs.Files.{File, file_at, shelf, shelved_by, triples_taken}
use Rattle.pc_model.specs.History.{History, Effect, effect_of, point_of}
use Rattle.pc_model.specs.Points.{taken}
use Rattle.pc_model.specs.Replies.{Setting, Answers, IsLegal, IsLegalHistory, certain}
use Rattle.pc_model.specs.LegalEffects.{IsIdle}
use Rattle.pc_model.specs.ReplyKinds.{IsReplyTo}
use Rattle.pc_model.specs.SessionLaws.{HasNoJoins, IsNoJoin}
use Rattle.pc_model.proofs.EffectCases.{begin_case, get_case, write_case, add_case, commit_case, abort_case, move_case, take_case}
use Rattle.pc_model.proofs.FileNumberLaws.{files_numbered}
use Rattle.pc_model.proofs.ReplyKindLaws.{reply_kind}
use Rattle.pc_model.proofs.LegalEffectLaws.{legal_has_legal_effects, settled}
use Rattle.pc_io.specs.declared.Format.TheVariants.{Second}
use Rattle.pc_part.specs.Lawful.{HasPart}
use Rattle.pc_part.specs.Texts.{part_text}
use Rattle.pc_lines.specs.declared.lines.Line.TheVariants as line
use Rattle.pc_serving.specs.Points.{IsShelvedAs, is_checkpoint}
use Rattle.pc_serving.specs.Requests.{request_of}
use Rattle.pc_texts.specs.Texts.{reply_text}
use Rattle.pc_serving.specs.Serving.{granted_text, is_of_client, wrong_phase_text}
use Rattle.pc_serving.specs.declared.pace.Turned.{Turned}
use Rattle.pc_serving.specs.declared.pace.Turned.TheVariants as turned
use Rattle.pc_serving.specs.declared.request.Request.{Request}
use Rattle.pc_serving.specs.declared.request.Request.TheVariants as request
use Rattle.pc_server.specs.Acts.{Act, Lead, AnswersRequest}
use Rattle.pc_server.specs.Acts.Act.{Answered, WentOn}
use Rattle.pc_server.specs.Files.{AreOfPoints, HasAllFiles, HasFile, HasNoMore, HasOnlyFiles, IsOfPoint, IsTextOf, KeepsOthers, ExtendsShelf}
use Rattle.pc_server.specs.Inputs.{shelved}
use Rattle.pc_model.proofs.LogLimits.{done_idle}

-- ---- places on a shelf

pushed : {A : Type 0} (xs : List A) (x y : A) (k : ℕ) → slice_get (xs ++ x ∷ []) k ≡ Some y → (slice_get xs k ≡ Some y) ⊎ ((k ≡ length xs) × (x ≡ y))
pushed [] x y zero e = inr (refl, cc (e))
pushed [] x y (suc k) e = absurd (cc (e))
pushed (z ∷ xs) x y zero e = inl e
pushed (z ∷ xs) x y (suc k) e = elim (pushed xs x y k e) [ inl t ↦ inl t | inr t ↦ inr (ap suc t.0, t.1) ]

pub get_last : {A : Type 0} (xs : List A) (x : A) → slice_get (xs ++ x ∷ []) (length xs) ≡ Some x
get_last [] x = refl
get_last (z ∷ xs) x = get_last xs x

get_front : {A : Type 0} (xs : List A) (x y : A) (k : ℕ) → slice_get xs k ≡ Some y → slice_get (xs ++ x ∷ []) k ≡ Some y
get_front [] x y k e = absurd (let lt = slice_get_within [] k y e in omega arith)
get_front (z ∷ xs) x y zero e = e
get_front (z ∷ xs) x y (suc k) e = get_front xs x y k e

-- a file's number, and its place
place_of : (files : List File) (n : ℕ) (f : File) → file_at files n ≡ Some f → (1 ≤ n) × (slice_get files (n - 1) ≡ Some f)
place_of files n f = by (eqb n 0) refl
  where
    by : (b : Bool) → eqb n 0 ≡ b → cond b None (slice_get files (n - 1)) ≡ Some f → (1 ≤ n) × (slice_get files (n - 1) ≡ Some f)
    by true e at = absurd (cc (at))
    by false e at = (grind (arith, nat_tests, e), at)

at_place : (files : List File) (n : ℕ) (f : File) → 1 ≤ n → slice_get files (n - 1) ≡ Some f → file_at files n ≡ Some f
at_place files n f some at = by (eqb n 0) refl
  where
    by : (b : Bool) → eqb n 0 ≡ b → cond b None (slice_get files (n - 1)) ≡ Some f
    by true e = absurd (let none : n ≡ 0 = grind (arith, nat_tests, e) in omega (arith, none, some))
    by false e = at

-- the last file has the last number
pub last_file : (files : List File) (file : File) → file_at (files ++ file ∷ []) (length files + 1) ≡ Some file
last_file files file =
    let same : (length files + 1) - 1 ≡ length files = omega arith in
    at_place (files ++ file ∷ []) (length files + 1) file (omega arith) (ap (slice_get (files ++ file ∷ [])) same ∙ get_last files file)

-- the others keep theirs
front_file : (files : List File) (file f : File) (n : ℕ) → file_at files n ≡ Some f → file_at (files ++ file ∷ []) n ≡ Some f
front_file files file f n at = let (some, place) = place_of files n f at in at_place (files ++ file ∷ []) n f some (get_front files file f (n - 1) place)

-- and there are no more
either_file : (files : List File) (file f : File) (n : ℕ) → file_at (files ++ file ∷ []) n ≡ Some f → (file_at files n ≡ Some f) ⊎ ((n ≡ length files + 1) × (file ≡ f))
either_file files file f n at =
    let (some, place) = place_of (files ++ file ∷ []) n f at in
    elim (pushed files file f (n - 1) place) [
      | inl t ↦ inl (at_place files n f some t)
      | inr t ↦ inr (let p = t.0 in omega (arith, p, some), t.1)
    ]

one_point : (p : ℕ) → set.items {o = set.number_order} (set.insert set.empty p) ≡ p ∷ []
unfolding map_of.insert map_of.empty
one_point p = refl

same_point : (file : File) (a b : ℕ) → IsOfPoint file a → IsOfPoint file b → a ≡ b
same_point file a b p q = head_same (sym (one_point a) ∙ (ap (λ s. set.items s) (sym p ∙ q) ∙ one_point b))
  where
    head_same : a ∷ [] ≡ b ∷ [] → a ≡ b
    head_same e = cc

-- ---- what a kept file leaves

module _ (first old new : ℕ → List ℕ → Type 0) (files : List File) (file : File) (points : AreOfPoints (files ++ file ∷ [])) where
  abbrev number : ℕ
  number = length files + 1

  is_last : IsOfPoint file number
  is_last = points number file (last_file files file)

  -- nothing is there but these files
  pub only_kept : HasOnlyFiles first old files → HasNoMore old new file → HasOnlyFiles first new (files ++ file ∷ [])
  only_kept only more = λ point text there. by point text (more point text there)
    where
      by_old : (point : ℕ) (text : List ℕ) → first point text ⊎ ((f : File) × (file_at files point ≡ Some f) × IsTextOf f text) → first point text ⊎ ((f : File) × (file_at (files ++ file ∷ []) point ≡ Some f) × IsTextOf f text)
      by_old point text (inl was) = inl was
      by_old point text (inr (f, at, is)) = inr (f, front_file files file f point at, is)

      by : (point : ℕ) (text : List ℕ) → old point text ⊎ (IsOfPoint file point × IsTextOf file text) → first point text ⊎ ((f : File) × (file_at (files ++ file ∷ []) point ≡ Some f) × IsTextOf f text)
      by point text (inl was) = by_old point text (only point text was)
      by point text (inr (of, is)) = inr (file, subst (λ n. file_at (files ++ file ∷ []) n ≡ Some file) (same_point file number point is_last of) (last_file files file), is)

  -- and each of them is
  pub all_kept : HasAllFiles old files → KeepsOthers old new file → HasFile new file → HasAllFiles new (files ++ file ∷ [])
  all_kept all others kept = λ point f at. by point f (either_file files file f point at)
    where
      by : (point : ℕ) (f : File) → (file_at files point ≡ Some f) ⊎ ((point ≡ number) × (file ≡ f)) → new point (part_text f)
      by point f (inl at) =
          let (some, place) = place_of files point f at in
          let within = slice_get_within files (point - 1) f place in
          others point (part_text f) (λ of. let same = same_point file number point is_last of in omega (arith, same, some, within)) (all point f at)
      by point f (inr (is, same)) = subst (λ g. new point (part_text g)) same (kept point (subst (IsOfPoint file) (sym is) is_last))

module _ (first old new : ℕ → List ℕ → Type 0) (files there : List File) {E : Type 0} (result : Result (Unit {0}) E) where
  -- what a call leaves that was to keep the files of the points
  abbrev pub Kept : List File → Type 0
  Kept these = MatchResult result (λ _. HasAllFiles new these × HasOnlyFiles first new these) (λ _. HasOnlyFiles first new these)

  one_kept : (file : File) → AreOfPoints (files ++ file ∷ []) → HasAllFiles old files → HasOnlyFiles first old files → OnOk result (HasFile new file) → KeepsOthers old new file → HasNoMore old new file → Kept (files ++ file ∷ [])
  one_kept file points all only kept others more = by result kept
    where
      by : (r : Result (Unit {0}) E) → OnOk r (HasFile new file) → MatchResult r (λ _. HasAllFiles new (files ++ file ∷ []) × HasOnlyFiles first new (files ++ file ∷ [])) (λ _. HasOnlyFiles first new (files ++ file ∷ []))
      by (Ok u) kept = (all_kept first old new files file points all others kept, only_kept first old new files file points only more)
      by (Err e) kept = only_kept first old new files file points only more

  -- the file that was put on the shelf was given
  pub shelf_kept : (t : Turned) (number : ℕ) → shelved t ≡ Some number → ExtendsShelf t files there → AreOfPoints there → HasAllFiles old files → HasOnlyFiles first old files
      → ((file : File) → file_at there number ≡ Some file → OnOk result (HasFile new file) × KeepsOthers old new file × HasNoMore old new file) → Kept there
  shelf_kept (turned.Shelved n) number is (file, e, last) points all only kept =
      let same : n ≡ number = some_same n number is in
      let place : number ≡ length files + 1 = sym same ∙ last in
      let at : file_at there number ≡ Some file = ap (λ l. file_at l number) e ∙ (ap (file_at (files ++ file ∷ [])) place ∙ last_file files file) in
      let (whole, others, more) = kept file at in
      subst Kept (sym e) (one_kept file (subst AreOfPoints e points) all only whole others more)
    where
      some_same : (a b : ℕ) → Some a ≡ Some b → a ≡ b
      some_same a b e = cc
  shelf_kept turned.Nothing number is shelves points all only kept = absurd (cc (is))
  shelf_kept turned.On number is shelves points all only kept = absurd (cc (is))

-- nothing was put there
pub none_kept : (first old : ℕ → List ℕ → Type 0) (files there : List File) (t : Turned) → shelved t ≡ None → ExtendsShelf t files there → HasAllFiles old files → HasOnlyFiles first old files → HasAllFiles old there × HasOnlyFiles first old there
none_kept first old files there (turned.Shelved n) is shelves all only = absurd (cc (is))
none_kept first old files there turned.Nothing is e all only = (subst (HasAllFiles old) (sym e) all, subst (HasOnlyFiles first old) (sym e) only)
none_kept first old files there turned.On is e all only = (subst (HasAllFiles old) (sym e) all, subst (HasOnlyFiles first old) (sym e) only)

-- ---- what a step puts on the shelf

module _ (run : ℕ) (h : History) where
  -- an effect of a client's puts nothing there
  abbrev Idle : Effect → Type 0
  Idle e = shelved_by run e h (shelf run h) ≡ []

  client_idle : (event : Event) (reply : Reply) → is_of_client event ≡ true → Idle (effect_of event reply)
  client_idle (asked.Begin s) r is = begin_case Idle refl s r (λ counts. refl)
  client_idle (asked.Get s key) r is = get_case Idle refl s key r (λ answer counts. refl) refl refl
  client_idle (asked.Put s key value) r is = write_case Idle refl s key (Some value) r (λ counts. refl) refl refl
  client_idle (asked.Del s key) r is = write_case Idle refl s key None r (λ counts. refl) refl refl
  client_idle (asked.Add s key delta) r is = add_case Idle refl s key delta r (λ sum counts. refl) refl refl
  client_idle (asked.Commit s) r is = commit_case Idle refl s r (λ counts. refl)
  client_idle (asked.Abort s) r is = abort_case Idle refl s r (λ counts. refl)
  client_idle asked.StartPoint r is = absurd (cc (is))
  client_idle asked.Seal r is = absurd (cc (is))
  client_idle asked.OpenCapture r is = absurd (cc (is))
  client_idle asked.Take r is = absurd (cc (is))
  client_idle asked.Done r is = absurd (cc (is))
  client_idle asked.Rest r is = absurd (cc (is))
  client_idle (asked.Join a b) r is = absurd (cc (is))

  checkpoint_idle : (event : Event) (reply : Reply) → is_checkpoint event ≡ true → event ≢ asked.Done → Idle (effect_of event reply)
  checkpoint_idle asked.StartPoint r is differs = move_case Idle refl r (λ phase point. refl)
  checkpoint_idle asked.Seal r is differs = move_case Idle refl r (λ phase point. refl)
  checkpoint_idle asked.OpenCapture r is differs = move_case Idle refl r (λ phase point. refl)
  checkpoint_idle asked.Take r is differs = take_case Idle refl r (λ key content. refl)
  checkpoint_idle asked.Done r is differs = absurd (differs refl)
  checkpoint_idle asked.Rest r is differs = move_case Idle refl r (λ phase point. refl)
  checkpoint_idle other r is differs = absurd (cc (is))

-- the reply tells of no part
abbrev IsNoPart : Reply → Type 0
IsNoPart (told.PartDone point file entries) = ⊥
IsNoPart other = ⊤

-- no file is reported
abbrev IsQuiet : Result Turned Refusal → Type 0
IsQuiet (Ok (turned.Shelved file)) = ⊥
IsQuiet other = ⊤

quiet : (reply : Reply) (result : Result Turned Refusal) → IsShelvedAs reply result → IsNoPart reply → IsQuiet result
quiet (told.PartDone point file entries) result is none = absurd none
quiet (told.Refused why) (Ok (turned.Shelved file)) is none = absurd (cc (is))
quiet (told.Refused why) (Ok turned.Nothing) is none = tt
quiet (told.Refused why) (Ok turned.On) is none = tt
quiet (told.Refused why) (Err e) is none = tt
quiet other (Ok (turned.Shelved file)) is none = absurd is
quiet other (Ok turned.Nothing) is none = tt
quiet other (Ok turned.On) is none = tt
quiet other (Err e) is none = tt

-- what a turn of the checkpointer's leaves of a shelf
abbrev pub LeavesShelf : Result Turned Refusal → List File → List File → Type 0
LeavesShelf result old new = MatchResult result (λ t. ExtendsShelf t old new) (λ _. new ≡ old)

same_left : (result : Result Turned Refusal) (old new : List File) → IsQuiet result → new ≡ old → LeavesShelf result old new
same_left (Ok (turned.Shelved file)) old new q e = absurd q
same_left (Ok turned.Nothing) old new q e = e
same_left (Ok turned.On) old new q e = e
same_left (Err w) old new q e = e

-- only the end of a capture has a reply that tells of a part
no_part : (st : Setting) (h : History) (event : Event) (reply : Reply) → IsLegal st h event reply → is_checkpoint event ≡ true → event ≢ asked.Done → IsNoPart reply
no_part st h event (told.PartDone point file entries) legal is differs = by event (reply_kind st h event (told.PartDone point file entries) legal) is differs
  where
    by : (event : Event) → IsReplyTo event (told.PartDone point file entries) → is_checkpoint event ≡ true → event ≢ asked.Done → ⊥
    by asked.Done kind is differs = differs refl
    by (asked.Begin s) kind is differs = kind
    by (asked.Get s key) kind is differs = kind
    by (asked.Put s key value) kind is differs = kind
    by (asked.Del s key) kind is differs = kind
    by (asked.Add s key delta) kind is differs = kind
    by (asked.Commit s) kind is differs = kind
    by (asked.Abort s) kind is differs = kind
    by asked.StartPoint kind is differs = kind
    by asked.Seal kind is differs = kind
    by asked.OpenCapture kind is differs = kind
    by asked.Take kind is differs = kind
    by asked.Rest kind is differs = kind
    by (asked.Join a b) kind is differs = kind
no_part st h event other legal is differs = tt

module _ (st : Setting) (h : History) where
  abbrev with_step : Event → Reply → History
  with_step event reply = record { event = event; reply = reply } ∷ h

  -- what is idle leaves the shelf
  idle_leaves : (event : Event) (reply : Reply) → Idle st.run h (effect_of event reply) → shelf st.run (with_step event reply) ≡ shelf st.run h
  idle_leaves event reply idle = ap (λ more. shelf st.run h ++ more) idle ∙ append-nil (shelf st.run h)

  -- the end of a capture
  done_leaves : (reply : Reply) (result : Result Turned Refusal) → IsLegal st h asked.Done reply → IsShelvedAs reply result → LeavesShelf result (shelf st.run h) (shelf st.run (with_step asked.Done reply))
  done_leaves (told.PartDone point file entries) result legal is =
      let answer : told.PartDone point file entries ≡ told.PartDone (point_of h) (length (shelf st.run h) + 1) (length (taken h)) = by (settled (certain st h asked.Done) (Answers st h asked.Done (told.PartDone point file entries)) (told.PartDone point file entries) (done_idle st h) legal) in
      let f : File = record { run = st.run; points = set.insert set.empty point; triples = triples_taken point (taken h) } in
      subst (λ r. LeavesShelf r (shelf st.run h) (shelf st.run (with_step asked.Done (told.PartDone point file entries)))) (sym is) (f, refl, number answer)
    where
      number : told.PartDone point file entries ≡ told.PartDone (point_of h) (length (shelf st.run h) + 1) (length (taken h)) → file ≡ length (shelf st.run h) + 1
      number e = cc

      by : ((certain st h asked.Done ≡ None) × (told.PartDone point file entries ≡ told.PartDone (point_of h) (length (shelf st.run h) + 1) (length (taken h)))) ⊎ IsIdle (told.PartDone point file entries)
          → told.PartDone point file entries ≡ told.PartDone (point_of h) (length (shelf st.run h) + 1) (length (taken h))
      by (inl answered) = answered.1
      by (inr idle) = absurd (let bad : Effect.Shelves point ≡ Effect.Nothing = idle asked.Done in cc)
  done_leaves other result legal is = same_left result (shelf st.run h) (shelf st.run (with_step asked.Done other)) (quiet other result is tt) (append-nil (shelf st.run h))

  -- what the checkpointer's turn leaves
  pub turn_leaves : (step : Step) (result : Result Turned Refusal) → is_checkpoint step.event ≡ true → IsLegal st h step.event step.reply → IsShelvedAs step.reply result → LeavesShelf result (shelf st.run h) (shelf st.run (step ∷ h))
  turn_leaves step result is legal told = by step.event step.reply is legal told
    where
      quiet_leaves : (event : Event) (reply : Reply) → is_checkpoint event ≡ true → event ≢ asked.Done → IsLegal st h event reply → IsShelvedAs reply result → LeavesShelf result (shelf st.run h) (shelf st.run (with_step event reply))
      quiet_leaves event reply is differs legal told = same_left result (shelf st.run h) (shelf st.run (with_step event reply)) (quiet reply result told (no_part st h event reply legal is differs)) (idle_leaves event reply (checkpoint_idle st.run h event reply is differs))

      by : (event : Event) (reply : Reply) → is_checkpoint event ≡ true → IsLegal st h event reply → IsShelvedAs reply result → LeavesShelf result (shelf st.run h) (shelf st.run (with_step event reply))
      by asked.Done reply is legal told = done_leaves reply result legal told
      by asked.StartPoint reply is legal told = quiet_leaves asked.StartPoint reply is (λ e. cc) legal told
      by asked.Seal reply is legal told = quiet_leaves asked.Seal reply is (λ e. cc) legal told
      by asked.OpenCapture reply is legal told = quiet_leaves asked.OpenCapture reply is (λ e. cc) legal told
      by asked.Take reply is legal told = quiet_leaves asked.Take reply is (λ e. cc) legal told
      by asked.Rest reply is legal told = quiet_leaves asked.Rest reply is (λ e. cc) legal told
      by other reply is legal told = absurd (cc (is))

-- ---- what lines leave

-- a line has made no step, or one of a client
abbrev pub IsStepped : History → History → Type 0
IsStepped before after = (after ≡ before) ⊎ ((event : Event) × (reply : Reply) × (is_of_client event ≡ true) × (after ≡ record { event = event; reply = reply } ∷ before))

pub request_steps : (st : Setting) (before after : History) (asked : Request) (text : List ℕ) → AnswersRequest st before asked text after → IsStepped before after
request_steps st before after (request.Line (line.Asks event)) text a = by (is_of_client event) refl a
  where
    by : (b : Bool) → is_of_client event ≡ b → MatchBool b
        ((reply : Reply) × IsLegal st before event reply × (after ≡ record { event = event; reply = reply } ∷ before) × (text ≡ (reply_text reply ++ codes "\n") ++ granted_text st (record { event = event; reply = reply }) before))
        ((text ≡ wrong_phase_text) × (after ≡ before))
        → IsStepped before after
    by true is (reply, legal, e, t) = inr (event, reply, is, e)
    by false is (t, e) = inl e
request_steps st before after (request.Line line.Silent) text (said, (s, e), t) = inl e
request_steps st before after (request.Line line.Malformed) text (said, (s, e), t) = inl e
request_steps st before after (request.Line (line.Sets key value)) text (said, (s, e), t) = inl e
request_steps st before after (request.Line (line.SetsRefused why)) text (said, (s, e), t) = inl e
request_steps st before after (request.Line (line.AsksRefused why)) text (said, (s, e), t) = inl e
request_steps st before after (request.Line (line.Shows view)) text (said, (v, e), t) = inl e
request_steps st before after request.Run text (t, e) = inl e
request_steps st before after request.Stats text (t, e) = inl e
request_steps st before after request.Quit text (t, e) = inl e

-- so the shelf stays
pub line_leaves : (st : Setting) (before after : History) (asked : Request) (text : List ℕ) → AnswersRequest st before asked text after → shelf st.run after ≡ shelf st.run before
line_leaves st before after asked text a = by (request_steps st before after asked text a)
  where
    by : IsStepped before after → shelf st.run after ≡ shelf st.run before
    by (inl e) = ap (shelf st.run) e
    by (inr (event, reply, is, e)) = ap (shelf st.run) e ∙ idle_leaves st before event reply (client_idle st.run before event reply is)

client_joins_not : (event : Event) → is_of_client event ≡ true → IsNoJoin event
client_joins_not (asked.Join a b) is = absurd (cc (is))
client_joins_not other is = tt

checkpoint_joins_not : (event : Event) → is_checkpoint event ≡ true → IsNoJoin event
checkpoint_joins_not (asked.Join a b) is = absurd (cc (is))
checkpoint_joins_not other is = tt

-- and no file is joined
lead_joins_not : (st : Setting) (before after : History) (acts : List Act) → Lead st before acts after → HasNoJoins before → HasNoJoins after
lead_joins_not st before after [] e none = subst HasNoJoins (sym e) none
lead_joins_not st before after (Answered l text ∷ acts) (between, led, told) none = by (request_steps st between after (request_of l) text told) (lead_joins_not st before between acts led none)
  where
    by : IsStepped between after → HasNoJoins between → HasNoJoins after
    by (inl e) has = subst HasNoJoins (sym e) has
    by (inr (event, reply, is, e)) has = subst HasNoJoins (sym e) (client_joins_not event is, has)
lead_joins_not st before after (WentOn step ∷ acts) (between, led, is, legal, e) none = subst HasNoJoins (sym e) (checkpoint_joins_not step.event is, lead_joins_not st before between acts led none)

-- the files of a process that serves are those of its points
pub files_of_points : (st : Setting) (at history : History) (gone turn : List Act) → IsLegalHistory st history → Lead st [] gone at → Lead st at turn history → AreOfPoints (shelf st.run history)
files_of_points st at history gone turn legal gone_by turn_by = λ point file is.
    files_numbered st history point file (legal_has_legal_effects st history legal) (lead_joins_not st at history turn turn_by (lead_joins_not st [] at gone gone_by tt)) is

-- ---- what comes back of a shelf

-- the shelf has the file of each number
pub contains_at : (files : List File) (n : ℕ) (file : File) → file_at files n ≡ Some file → Contains files file
contains_at files n file at = let (some, place) = place_of files n file at in
    subst (Contains files) (get_or_from_slice_get files (n - 1) file file place) (Contains-get_or files (n - 1) file (slice_get_within files (n - 1) file place))

-- format 02 has a text of each part
pub second_has_part : (file : File) → HasPart Second file
second_has_part file = λ i default some. tt
