-- What acts add to the counts of a log.
use Rattle.std.proofs.Common.{◌≡◌, ℕ, ◌+◌, ◌-◌, ◌^◌, ◌≤◌, ◌<◌, ◌⊎◌, inl, inr, min, cond, Bool, true, false, List, [], ◌∷◌, ◌++◌, length, append-nil, refl, sym, ap, subst, ◌∙◌, arith}
use Rattle.std.specs.Prelude.{Some, None, slice_get}
use Rattle.std.specs.List.{flat_map}
use Rattle.std.proofs.lemmas.List.{length-append}
use Rattle.std.proofs.lemmas.List.Concat.{flat_map-append}
use Rattle.pc_types.specs.declared.Entry.{Entry}
use Rattle.pc_types.specs.declared.Entry.TheVariants.{Commit, Token}
use Rattle.pc_types.specs.declared.Event.{Event}
use Rattle.pc_types.specs.declared.Event.TheVariants as asked
use Rattle.pc_types.specs.declared.Reply.{Reply}
use Rattle.pc_types.specs.declared.Step.{Step}
use Rattle.pc_types.specs.declared.Phase.TheVariants.{Complete}
use Rattle.pc_types.specs.declared.limits.TheConstants.{MOST_LOG_ENTRIES}
use Rattle.pc_model.specs.History.{History, Effect, effect_of, entries_by, log_of, writes_of}
use Rattle.pc_model.specs.Replies.{Setting, IsLegalHistory}
use Rattle.pc_model.proofs.EffectCases.{begin_case, get_case, write_case, add_case, commit_case, abort_case, move_case, take_case, done_case}
use Rattle.pc_log.specs.Texts.{entry_text, header_text, log_text}
use Rattle.pc_io.specs.declared.Format.TheVariants as format
use Rattle.pc_log.proofs.EntriesAgain.{header_length}
use Rattle.pc_serving.specs.Points.{is_checkpoint}
use Rattle.pc_serving.specs.Serving.{is_of_client}
use Rattle.pc_serving.specs.declared.request.Request.{Request}
use Rattle.pc_server.specs.Acts.{AnswersRequest, commits_in, is_commit}
use Rattle.pc_server.specs.Turns.{AreCounts}
use Rattle.pc_server.specs.declared.counts.Counts.{Counts}
use Rattle.pc_server.proofs.FileLaws.{get_last, request_steps}
use Rattle.pc_model.proofs.LogLimits.{log_within}

-- the log has no more than it had, or one entry more, a commit or a token
abbrev pub Follows : Bool → List Entry → List Entry → Type 0
Follows commits old new = (new ≡ old) ⊎ ((entry : Entry) × (is_commit entry ≡ commits) × (new ≡ old ++ entry ∷ []))

abbrev Adds : Bool → List Entry → Type 0
Adds commits more = (more ≡ []) ⊎ ((entry : Entry) × (is_commit entry ≡ commits) × (more ≡ entry ∷ []))

adds_follow : (commits : Bool) (old more : List Entry) → Adds commits more → Follows commits old (old ++ more)
adds_follow commits old more (inl none) = inl (ap (λ m. old ++ m) none ∙ append-nil old)
adds_follow commits old more (inr (entry, kind, is)) = inr (entry, kind, ap (λ m. old ++ m) is)

module _ (h : History) where
  abbrev Commits_only : Effect → Type 0
  Commits_only e = Adds true (entries_by e h)

  client_adds : (event : Event) (reply : Reply) → is_of_client event ≡ true → Commits_only (effect_of event reply)
  client_adds (asked.Begin s) r is = begin_case Commits_only (inl refl) s r (λ counts. inl refl)
  client_adds (asked.Get s key) r is = get_case Commits_only (inl refl) s key r (λ answer counts. inl refl) (inl refl) (inl refl)
  client_adds (asked.Put s key value) r is = write_case Commits_only (inl refl) s key (Some value) r (λ counts. inl refl) (inl refl) (inl refl)
  client_adds (asked.Del s key) r is = write_case Commits_only (inl refl) s key None r (λ counts. inl refl) (inl refl) (inl refl)
  client_adds (asked.Add s key delta) r is = add_case Commits_only (inl refl) s key delta r (λ sum counts. inl refl) (inl refl) (inl refl)
  client_adds (asked.Commit s) r is = commit_case Commits_only (inl refl) s r (λ counts. inr (Commit s (writes_of s h), refl, refl))
  client_adds (asked.Abort s) r is = abort_case Commits_only (inl refl) s r (λ counts. inl refl)
  client_adds asked.StartPoint r is = absurd (cc (is))
  client_adds asked.Seal r is = absurd (cc (is))
  client_adds asked.OpenCapture r is = absurd (cc (is))
  client_adds asked.Take r is = absurd (cc (is))
  client_adds asked.Done r is = absurd (cc (is))
  client_adds asked.Rest r is = absurd (cc (is))
  client_adds (asked.Join a b) r is = absurd (cc (is))

  abbrev Tokens_only : Effect → Type 0
  Tokens_only e = Adds false (entries_by e h)

  checkpoint_adds : (event : Event) (reply : Reply) → is_checkpoint event ≡ true → Tokens_only (effect_of event reply)
  checkpoint_adds asked.StartPoint r is = move_case Tokens_only (inl refl) r (λ phase point. inr (Token phase point, refl, refl))
  checkpoint_adds asked.Seal r is = move_case Tokens_only (inl refl) r (λ phase point. inr (Token phase point, refl, refl))
  checkpoint_adds asked.OpenCapture r is = move_case Tokens_only (inl refl) r (λ phase point. inr (Token phase point, refl, refl))
  checkpoint_adds asked.Take r is = take_case Tokens_only (inl refl) r (λ key content. inl refl)
  checkpoint_adds asked.Done r is = done_case Tokens_only (inl refl) r (λ point. inr (Token Complete point, refl, refl))
  checkpoint_adds asked.Rest r is = move_case Tokens_only (inl refl) r (λ phase point. inr (Token phase point, refl, refl))
  checkpoint_adds other r is = absurd (cc (is))

-- a line adds no more than a commit
pub line_follows : (st : Setting) (before after : History) (asked : Request) (text : List ℕ) → AnswersRequest st before asked text after → Follows true (log_of before) (log_of after)
line_follows st before after asked text a = by (request_steps st before after asked text a)
  where
    by : (after ≡ before) ⊎ ((event : Event) × (reply : Reply) × (is_of_client event ≡ true) × (after ≡ record { event = event; reply = reply } ∷ before)) → Follows true (log_of before) (log_of after)
    by (inl e) = inl (ap log_of e)
    by (inr (event, reply, is, e)) = subst (λ h. Follows true (log_of before) (log_of h)) (sym e) (adds_follow true (log_of before) (entries_by (effect_of event reply) before) (client_adds before event reply is))

-- a step of the checkpointer's no more than a token
pub step_follows : (step : Step) (h : History) → is_checkpoint step.event ≡ true → Follows false (log_of h) (log_of (step ∷ h))
step_follows step h is = adds_follow false (log_of h) (entries_by (effect_of step.event step.reply) h) (checkpoint_adds h step.event step.reply is)

-- ---- what is counted

commits_on : (log : List Entry) (entry : Entry) → commits_in (log ++ entry ∷ []) ≡ commits_in log + cond (is_commit entry) 1 0
commits_on [] (Commit session writes) = refl
commits_on [] (Token phase point) = refl
commits_on (Commit session writes ∷ log) entry = omega (arith, commits_on log entry)
commits_on (Token phase point ∷ log) entry = commits_on log entry

commits_few : (log : List Entry) → commits_in log ≤ length log
commits_few [] = omega arith
commits_few (Commit session writes ∷ log) = omega (arith, commits_few log)
commits_few (Token phase point ∷ log) = omega (arith, commits_few log)

size_on : (run : ℕ) (log : List Entry) (entry : Entry) → length (log_text run (log ++ entry ∷ [])) ≡ length (log_text run log) + length (entry_text entry)
size_on run log entry =
    let texts : flat_map entry_text (log ++ entry ∷ []) ≡ flat_map entry_text log ++ entry_text entry = flat_map-append entry_text log (entry ∷ []) ∙ ap (λ t. flat_map entry_text log ++ t) (append-nil (entry_text entry)) in
    omega (arith, ap length texts, length-append (header_text run) (flat_map entry_text (log ++ entry ∷ [])), length-append (header_text run) (flat_map entry_text log), length-append (flat_map entry_text log) (entry_text entry))

-- those of a log without entries
pub none_counted : (run : ℕ) → AreCounts run [] (record { commits = 0; bytes = 20 })
none_counted run = (omega arith, let size = header_length format.Second run in omega (arith, size, length-append (header_text run) []))

-- an entry was counted, if there was one
pub counted : (run : ℕ) (commits : Bool) (old new : List Entry) (was is : Counts) → Follows commits old new → AreCounts run old was → (length new ≤ length old → is ≡ was)
    → ((entry : Entry) → slice_get new (length old) ≡ Some entry → is ≡ record { commits = cond commits (min (was.commits + 1) (2 ^ 64 - 1)) was.commits; bytes = min (was.bytes + length (entry_text entry)) (2 ^ 64 - 1) }) → AreCounts run new is
counted run commits old new was is (inl e) counts none some =
    subst (λ c. AreCounts run new c) (sym (none (omega (arith, ap length e)))) (subst (λ l. AreCounts run l was) (sym e) counts)
counted run commits old new was is (inr (entry, kind, e)) counts none some =
    let same = some entry (ap (λ l. slice_get l (length old)) e ∙ get_last old entry) in
    subst (λ l. AreCounts run l is) (sym e) (subst (AreCounts run (old ++ entry ∷ [])) (sym same) (by commits kind, omega (arith, counts.1, size_on run old entry)))
  where
    by : (b : Bool) → is_commit entry ≡ b → cond b (min (was.commits + 1) (2 ^ 64 - 1)) was.commits ≡ min (commits_in (old ++ entry ∷ [])) (2 ^ 64 - 1)
    by true k = omega (arith, counts.0, commits_on old entry, ap {B = ℕ} (λ b. cond b 1 0) k)
    by false k = omega (arith, counts.0, commits_on old entry, ap {B = ℕ} (λ b. cond b 1 0) k)

-- of a legal history all commits are counted
pub all_counted : (st : Setting) (h : History) (counts : Counts) → IsLegalHistory st h → AreCounts st.run (log_of h) counts → counts.commits ≡ commits_in (log_of h)
all_counted st h counts legal is =
    let few : length (log_of h) ≤ MOST_LOG_ENTRIES = log_within st h legal in
    omega (arith, is.0, few, commits_few (log_of h))
