-- A log without a place left has the commits of the clients and the tokens of the points.
use Rattle.std.proofs.Common.{◌≡◌, ◌==◌, ◌≤◌, ◌+◌, ◌*◌, ◌||◌, ◌⊎◌, inl, inr, ℕ, zero, suc, Bool, true, false, not, List, [], ◌∷◌, ◌++◌, length, length-append, All, refl, ap, sym, subst, ◌∙◌, arith}
use Rattle.std.specs.Prelude.{⊤, Some, None, IsTrue, if◌then◌else◌}
use Rattle.std.specs.List.{filter, flat_map}
use Rattle.std.proofs.lemmas.Bool.Decides.{nat_tests}
use Rattle.std.proofs.lemmas.List.Elements.{All-head, All-tail, filter-append}
use Rattle.pc_types.specs.declared.Entry.{Entry}
use Rattle.pc_types.specs.declared.Entry.TheVariants.{Commit, Token}
use Rattle.pc_types.specs.declared.Event.{Event}
use Rattle.pc_types.specs.declared.Event.TheVariants as asked
use Rattle.pc_types.specs.declared.Refusal.TheVariants as why
use Rattle.pc_types.specs.declared.Reply.{Reply}
use Rattle.pc_types.specs.declared.Write.{Write}
use Rattle.pc_types.specs.declared.limits.TheConstants.{MOST_LOG_ENTRIES}
use Rattle.pc_model.specs.History.{History, Effect, effect, effect_of, entries_by, has_died, is_open, log_of}
use Rattle.pc_model.specs.History.Effect.{Commits, Moves, Shelves}
use Rattle.pc_model.specs.LegalEffects.{IsIdle}
use Rattle.pc_model.specs.Locks.{is_waiting}
use Rattle.pc_model.specs.Replies.{Setting, Answers, IsLegal, IsLegalHistory, certain, log_is_full, no_session, transaction_causes}
use Rattle.pc_model.proofs.BeginningLaws.{logs_grow}
use Rattle.pc_model.proofs.EffectCases.{begin_case, get_case, write_case, add_case, abort_case, move_case, take_case, done_case, join_case}
use Rattle.pc_model.proofs.EffectLaws.{no_first}
use Rattle.pc_model.proofs.LegalEffectLaws.{causes_idle, is_a_session, settled}
use Rattle.pc_latch.specs.Cycles.{entered_by, phases_entered}
use Rattle.pc_latch.proofs.CycleLaws.{entered_known}
use Rattle.pc_jobs.specs.declared.works.Client.{Client}
use Rattle.pc_outcomes.specs.Leaving.{commits_in, is_commit}
use Rattle.pc_shared.specs.Sitters.{Sitter, HasAll, IsEndOf, IsSitterSettled, has_sitter}
use Rattle.pc_threads.specs.Clients.{HaveWorked, IsFresh, jobs_of, transactions_in}
use Rattle.pc_threads.specs.Faults.{HasFullLog}
use Rattle.pc_threads.specs.declared.points.FullLog.{FullLog}
use Rattle.pc_threads.specs.declared.points.TheConstants.{TOKENS}
use Rattle.pc_runs.specs.Worked.{commits_of}
use Rattle.pc_runs.proofs.CommitLaws.{written_in}
use Rattle.pc_runs.proofs.HistoryLaws.{first_ones}
use Rattle.pc_runs.proofs.WorkLaws.{back, committed}

-- each commit is of a session of which this holds
abbrev AreOf : (ℕ → Bool) → List Entry → Type 0
AreOf holds [] = ⊤
AreOf holds (Commit session writes ∷ log) = (holds session ≡ true) × AreOf holds log
AreOf holds (Token phase point ∷ log) = AreOf holds log

of_both : (holds : ℕ → Bool) (log more : List Entry) → AreOf holds log → AreOf holds more → AreOf holds (log ++ more)
of_both holds [] more are others = others
of_both holds (Commit session writes ∷ log) more are others = (are.0, of_both holds log more are.1 others)
of_both holds (Token phase point ∷ log) more are others = of_both holds log more are others

-- if it holds of all sessions of the store, each commit of a legal history is of such a session
module _ (st : Setting) (holds : ℕ → Bool) (all : (s : ℕ) → 1 ≤ s → s ≤ st.sessions → holds s ≡ true) where
  module _ (h : History) where
    abbrev Then : Effect → Type 0
    Then e = AreOf holds (entries_by e h)

    by_commit : (s : ℕ) (reply : Reply) → IsLegal st h (asked.Commit s) reply → Then (effect_of (asked.Commit s) reply)
    by_commit s reply legal =
        by (settled (certain st h (asked.Commit s)) (Answers st h (asked.Commit s) reply) reply (causes_idle (transaction_causes st s h ++ (log_is_full h, why.LogFull) ∷ [])) legal)
      where
        by : ((certain st h (asked.Commit s) ≡ None) × Answers st h (asked.Commit s) reply) ⊎ IsIdle reply → Then (effect_of (asked.Commit s) reply)
        by (inl answered) =
            let full = (log_is_full h, why.LogFull) ∷ [] in
            let died = (has_died s h, why.MustAbort) ∷ full in
            let waits = (is_waiting s h, why.StillWaiting) ∷ died in
            let closed = (not (is_open s h), why.NoTransaction) ∷ waits in
            let session = is_a_session st h s (no_first (no_session st s, why.NoSession) closed answered.0) in
            subst (λ (r : Reply). Then (effect_of (asked.Commit s) r)) (sym answered.1) (all s session.0 session.1, tt)
        by (inr idle) = subst Then (sym (idle (asked.Commit s))) tt

    by_step : (event : Event) (reply : Reply) → IsLegal st h event reply → Then (effect_of event reply)
    by_step (asked.Begin s) reply legal = begin_case Then tt s reply (λ counts. tt)
    by_step (asked.Get s key) reply legal = get_case Then tt s key reply (λ answer counts. tt) tt tt
    by_step (asked.Put s key value) reply legal = write_case Then tt s key (Some value) reply (λ counts. tt) tt tt
    by_step (asked.Del s key) reply legal = write_case Then tt s key None reply (λ counts. tt) tt tt
    by_step (asked.Add s key delta) reply legal = add_case Then tt s key delta reply (λ sum counts. tt) tt tt
    by_step (asked.Commit s) reply legal = by_commit s reply legal
    by_step (asked.Abort s) reply legal = abort_case Then tt s reply (λ counts. tt)
    by_step asked.StartPoint reply legal = move_case Then tt reply (λ phase point. tt)
    by_step asked.Seal reply legal = move_case Then tt reply (λ phase point. tt)
    by_step asked.OpenCapture reply legal = move_case Then tt reply (λ phase point. tt)
    by_step asked.Take reply legal = take_case Then tt reply (λ key content. tt)
    by_step asked.Done reply legal = done_case Then tt reply (λ point. tt)
    by_step asked.Rest reply legal = move_case Then tt reply (λ phase point. tt)
    by_step (asked.Join a b) reply legal = join_case Then tt a b reply tt

  commits_are_of : (h : History) → IsLegalHistory st h → AreOf holds (log_of h)
  commits_are_of [] legal = tt
  commits_are_of (c ∷ h) legal = of_both holds (log_of h) (entries_by (effect c) h) (commits_are_of h legal.1) (by_step h c.event c.reply legal.0)

-- an effect adds a commit, or a token for the phase that it enters, or nothing
one_each : (e : Effect) (h : History) → length (entries_by e h) ≡ commits_in (entries_by e h) + length (entered_by e)
one_each (Commits s) h = refl
one_each (Moves phase point) h = refl
one_each (Shelves point) h = refl
one_each other h = refl

-- the log has the commits and the tokens
counted : (h : History) → length (log_of h) ≡ commits_in (log_of h) + length (phases_entered h)
counted [] = refl
counted (c ∷ h) =
    let log = log_of h in
    let more = entries_by (effect c) h in
    let so_far = counted h in
    let own = one_each (effect c) h in
    let commits = ap length (filter-append is_commit log more) ∙ length-append (filter is_commit log) (filter is_commit more) in
    omega (arith, so_far, own, commits, length-append log more, length-append (phases_entered h) (entered_by (effect c)))

-- a number of each session, summed over some of them
abbrev sum_of : (ℕ → ℕ) → List Sitter → ℕ
sum_of f [] = 0
sum_of f (s ∷ ss) = f s.number + sum_of f ss

sum_of-append : (f : ℕ → ℕ) (xs ys : List Sitter) → sum_of f (xs ++ ys) ≡ sum_of f xs + sum_of f ys
sum_of-append f [] ys = omega arith
sum_of-append f (x ∷ xs) ys = let rest = sum_of-append f xs ys in omega (arith, rest)

-- how many commits of the session the log has
abbrev count_of : List Entry → ℕ → ℕ
count_of log n = length (commits_of n log)

same_test : (m n : ℕ) → (m == n) ≡ (n == m)
same_test m n = by (m == n) (n == m) refl refl
  where
    by : (a b : Bool) → (m == n) ≡ a → (n == m) ≡ b → a ≡ b
    by true true e f = refl
    by false false e f = refl
    by true false e f = absurd (let same : m ≡ n = grind (arith, nat_tests) in let other : (n == m) ≡ true = grind (arith, nat_tests, same) in cc (f, other))
    by false true e f = absurd (let same : n ≡ m = grind (arith, nat_tests) in let other : (m == n) ≡ true = grind (arith, nat_tests, same) in cc (e, other))

-- a commit more
module _ (session : ℕ) (writes : List Write) (log : List Entry) where
  no_fewer : (ss : List Sitter) → sum_of (count_of log) ss ≤ sum_of (count_of (Commit session writes ∷ log)) ss
  no_fewer [] = omega arith
  no_fewer (s ∷ ss) = by (session == s.number) (no_fewer ss)
    where
      own : List (List Write)
      own = commits_of s.number log

      by : (mine : Bool) → sum_of (count_of log) ss ≤ sum_of (count_of (Commit session writes ∷ log)) ss
          → length own + sum_of (count_of log) ss ≤ length (if mine then writes ∷ own else own) + sum_of (count_of (Commit session writes ∷ log)) ss
      by true rest = omega (arith, rest)
      by false rest = omega (arith, rest)

  one_more : (ss : List Sitter) → has_sitter ss session ≡ true → 1 + sum_of (count_of log) ss ≤ sum_of (count_of (Commit session writes ∷ log)) ss
  one_more [] there = absurd (cc (there))
  one_more (s ∷ ss) there = by (s.number == session) (session == s.number) (same_test s.number session) there (no_fewer ss) (one_more ss)
    where
      own : List (List Write)
      own = commits_of s.number log

      by : (a b : Bool) → a ≡ b → (a || has_sitter ss session) ≡ true → sum_of (count_of log) ss ≤ sum_of (count_of (Commit session writes ∷ log)) ss
          → (has_sitter ss session ≡ true → 1 + sum_of (count_of log) ss ≤ sum_of (count_of (Commit session writes ∷ log)) ss)
          → 1 + (length own + sum_of (count_of log) ss) ≤ length (if b then writes ∷ own else own) + sum_of (count_of (Commit session writes ∷ log)) ss
      by true true e is few rest = omega (arith, few)
      by false false e is few rest = let more = rest is in omega (arith, more)
      by true false e is few rest = absurd (cc (e))
      by false true e is few rest = absurd (cc (e))

-- the commits of a log are of these sessions, if each is of one of them
covered : (ss : List Sitter) (log : List Entry) → AreOf (has_sitter ss) log → commits_in log ≤ sum_of (count_of log) ss
covered ss [] are = omega arith
covered ss (Token phase point ∷ log) are = covered ss log are
covered ss (Commit session writes ∷ log) are =
    let rest = covered ss log are.1 in
    let more = one_more session writes log ss are.0 in
    omega (arith, rest, more)

module _ (st : Setting) (h : History) where
  -- sessions without calls have no commits
  none_idle : (idle : List Sitter) → All IsFresh idle → All (IsSitterSettled st h) idle → sum_of (count_of (log_of h)) idle ≡ 0
  none_idle [] fresh settled = refl
  none_idle (s ∷ idle) fresh settled =
      let own : count_of (log_of h) s.number ≡ 0 = ap length (committed st h s (All-head (IsSitterSettled st h) s idle settled) ∙ ap (λ (r : Sitter). written_in r.receipts) (All-head IsFresh s idle fresh)) in
      let rest = none_idle idle (All-tail IsFresh s idle fresh) (All-tail (IsSitterSettled st h) s idle settled) in
      omega (arith, own, rest)

  -- clients that have run have at most a commit for each transaction
  few_commits : (clients : List Client) (given_up : ℕ) (sessions : List Sitter) → HaveWorked st clients given_up sessions → All (IsSitterSettled st h) sessions → sum_of (count_of (log_of h)) sessions ≤ transactions_in clients
  few_commits [] given_up [] have settled = omega arith
  few_commits (c ∷ clients) given_up (s ∷ sessions) (own, others, sum, has, have) settled =
      let ran = has.run in
      let commits = ap length (committed st h s (All-head (IsSitterSettled st h) s sessions settled) ∙ ap written_in ran.committed.receipts ∙ ran.committed.writes) in
      let rest = few_commits clients others sessions have (All-tail (IsSitterSettled st h) s sessions settled) in
      omega (arith, commits, ran.count, has.all, rest, length-append (jobs_of c) (flat_map jobs_of clients))
  few_commits [] given_up (s ∷ sessions) have settled = absurd have
  few_commits (c ∷ clients) given_up [] have settled = absurd have

  -- the log of a store whose sessions are all there
  log_at_most : (clients : List Client) (given_up : ℕ) (idle worked : List Sitter) → IsLegalHistory st h → HaveWorked st clients given_up worked → All IsFresh idle → All (IsSitterSettled st h) (idle ++ worked)
      → HasAll st.sessions (idle ++ worked) → length (log_of h) ≤ transactions_in clients + length (phases_entered h)
  log_at_most clients given_up idle worked legal have fresh settled all =
      let log = log_of h in
      let ss : List Sitter = idle ++ worked in
      let there : (s : ℕ) → 1 ≤ s → s ≤ st.sessions → has_sitter ss s ≡ true = is_there in
      let commits = covered ss log (commits_are_of st (has_sitter ss) there h legal) in
      let none = none_idle idle fresh (first_ones (IsSitterSettled st h) idle worked settled) in
      let few = few_commits clients given_up worked have (back st h (IsSitterSettled st h) idle worked settled) in
      omega (arith, counted h, commits, sum_of-append (count_of log) idle worked, none, few)
    where
      is_there : (s : ℕ) → 1 ≤ s → s ≤ st.sessions → has_sitter (idle ++ worked) s ≡ true
      is_there (suc k) low high = ap (has_sitter (idle ++ worked)) (omega arith) ∙ all k (omega (arith, high))
      is_there zero low high = absurd (omega (arith, low))

-- the log of the store that had no place left for the points
pub fills_log : {N : Type 0} (st : Setting) (points : ℕ) (full : FullLog N) (clients : List Client) (given_up : ℕ) (idle worked : List Sitter) (history : History) → HasFullLog st points full → IsEndOf st (idle ++ worked) full.seat full.seen history
    → HaveWorked st clients given_up worked → All IsFresh idle → HasAll st.sessions (idle ++ worked) → MOST_LOG_ENTRIES ≤ transactions_in clients + TOKENS * points
fills_log st points full clients given_up idle worked h has end have fresh all =
    let grown = logs_grow full.seen h end.had_seen in
    let longer = ap length grown.1 in
    let is : length (log_of full.seen) ≡ MOST_LOG_ENTRIES = at_limit (length (log_of full.seen)) has.is_full in
    let phases = ap length (entered_known h full.seat end.cycles) in
    let most = log_at_most st h clients given_up idle worked end.legal have fresh end.settled all in
    omega (arith, is, longer, length-append (log_of full.seen) grown.0, phases, most, has.phases)
  where
    at_limit : (n : ℕ) → IsTrue (n == MOST_LOG_ENTRIES) → n ≡ MOST_LOG_ENTRIES
    at_limit n is = grind (arith, nat_tests)
