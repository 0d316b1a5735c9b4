-- The transactions that the clients have done as their sessions are those in the log of a closed store.
use Rattle.std.proofs.Common.{◌≡◌, ◌==◌, ◌≤◌, ◌+◌, ◌-◌, ◌||◌, ℕ, zero, suc, Bool, true, false, List, [], ◌∷◌, ◌++◌, length, All, refl, ap, sym, subst, ◌∙◌, arith}
use Rattle.std.specs.Prelude.{IsFalse}
use Rattle.std.proofs.lemmas.List.Elements.{All-nil, All-cons, All-head, All-push, All-tail}
use Rattle.std.proofs.lemmas.Bool.Decides.{nat_tests}
use Rattle.pc_model.specs.Calls.{HasCallsOf}
use Rattle.pc_model.specs.History.{History, log_of}
use Rattle.pc_model.specs.Replies.{Setting}
use Rattle.pc_jobs.specs.declared.works.Client.{Client}
use Rattle.pc_jobs.specs.Dealing.{IsDealt}
use Rattle.pc_shared.specs.Sitters.{Sitter, IsSitterSettled, HasAll, has_sitter, new_sitters, sitter}
use Rattle.pc_workers.specs.Clients.{marked}
use Rattle.pc_threads.specs.Clients.{HasWorked, HaveWorked, IsFresh, clients_in, is_taken, jobs_of}
use Rattle.pc_runs.specs.Worked.{HasRunBy, HaveRunBy, commits_of, left_over}
use Rattle.pc_runs.proofs.CommitLaws.{receipts_are_commits, written_in}
use Rattle.pc_runs.proofs.HistoryLaws.{first_ones}
use Rattle.pc_runs.proofs.DealingLaws.{of_dealt, same_total, to_dealt, total}

module _ (st : Setting) (h : History) where
  -- the number of a client's transactions that have not committed
  abbrev left_of : Client → ℕ
  left_of client = length (jobs_of client) - length (commits_of client.session (log_of h))

  same_left : (clients : List Client) → left_over (log_of h) clients ≡ total left_of clients
  same_left [] = refl
  same_left (c ∷ clients) = ap (λ n. left_of c + n) (same_left clients)

  -- the commits of the session are those of its receipts
  pub committed : (s : Sitter) → IsSitterSettled st h s → commits_of s.number (log_of h) ≡ written_in s.receipts
  committed s settled = receipts_are_commits s.number h ∙ ap written_in (sym settled.own)

  -- a client that has worked
  client_ran : (client : Client) (own : ℕ) (session : Sitter) → HasWorked st client own session → IsSitterSettled st h session → HasRunBy st h client × (own ≡ left_of client)
  client_ran client own session has settled =
      let ran = has.run in
      let is : commits_of client.session (log_of h) ≡ marked ran.marks (jobs_of client) =
      ap (λ n. commits_of n (log_of h)) (sym ran.committed.number) ∙ committed session settled ∙ ap written_in ran.committed.receipts ∙ ran.committed.writes in
      let count = ap length is in
      let calls : HasCallsOf h client.session session.seen = subst (λ n. HasCallsOf h n session.seen) ran.committed.number settled.calls in
      (record { marks = ran.marks; one_each = ran.one_each; commits = is; seen = session.seen; calls = calls; done = has.done refl }, omega (arith, has.all, count, ran.count))

  clients_ran : (clients : List Client) (given_up : ℕ) (sessions : List Sitter) → HaveWorked st clients given_up sessions → All (IsSitterSettled st h) sessions
      → All (HasRunBy st h) clients × (given_up ≡ total left_of clients)
  clients_ran [] given_up [] have settled = (All-nil (HasRunBy st h), have)
  clients_ran (c ∷ clients) given_up (s ∷ sessions) (own, others, sum, has, have) settled =
      let one = client_ran c own s has (All-head (IsSitterSettled st h) s sessions settled) in
      let rest = clients_ran clients others sessions have (All-tail (IsSitterSettled st h) s sessions settled) in
      (All-cons (HasRunBy st h) c clients one.0 rest.0, sum ∙ ap (λ n. n + others) one.1 ∙ ap (λ n. left_of c + n) rest.1)
  clients_ran [] given_up (s ∷ sessions) have settled = absurd have
  clients_ran (c ∷ clients) given_up [] have settled = absurd have

  -- the session of the number has committed nothing if it is one without calls
  idle_alone : (n : ℕ) (idle : List Sitter) → All IsFresh idle → All (IsSitterSettled st h) idle → has_sitter idle n ≡ true → commits_of n (log_of h) ≡ []
  idle_alone n [] fresh settled there = absurd (cc (there))
  idle_alone n (s ∷ idle) fresh settled there =
      by (s.number == n) refl there (idle_alone n idle (All-tail IsFresh s idle fresh) (All-tail (IsSitterSettled st h) s idle settled))
    where
      by : (mine : Bool) → (s.number == n) ≡ mine → (mine || has_sitter idle n) ≡ true → (has_sitter idle n ≡ true → commits_of n (log_of h) ≡ []) → commits_of n (log_of h) ≡ []
      by true is some rest =
          let at : s.number ≡ n = grind (arith, nat_tests) in
          ap (λ m. commits_of m (log_of h)) (sym at) ∙ committed s (All-head (IsSitterSettled st h) s idle settled) ∙ ap (λ (r : Sitter). written_in r.receipts) (All-head IsFresh s idle fresh)
      by false is some rest = rest some

  -- otherwise it is a client's
  taken : (n : ℕ) (clients : List Client) (given_up : ℕ) (sessions : List Sitter) → HaveWorked st clients given_up sessions → All (λ (c : Client). (c.session == n) ≡ false) clients → has_sitter sessions n ≡ false
  taken n [] given_up [] have none = refl
  taken n (c ∷ clients) given_up (s ∷ sessions) (own, others, sum, has, have) none =
      let other : (s.number == n) ≡ false = ap (λ m. m == n) has.run.committed.number ∙ All-head (λ (k : Client). (k.session == n) ≡ false) c clients none in
      ap (λ b. b || has_sitter sessions n) other ∙ taken n clients others sessions have (All-tail (λ (k : Client). (k.session == n) ≡ false) c clients none)
  taken n [] given_up (s ∷ sessions) have none = absurd have
  taken n (c ∷ clients) given_up [] have none = absurd have

  there_append : (n : ℕ) (xs ys : List Sitter) → has_sitter ys n ≡ false → has_sitter (xs ++ ys) n ≡ true → has_sitter xs n ≡ true
  there_append n [] ys none some = absurd (cc (none, some))
  there_append n (x ∷ xs) ys none some = by (x.number == n) some (there_append n xs ys none)
    where
      by : (mine : Bool) → (mine || has_sitter (xs ++ ys) n) ≡ true → (has_sitter (xs ++ ys) n ≡ true → has_sitter xs n ≡ true) → (mine || has_sitter xs n) ≡ true
      by true is rest = refl
      by false is rest = rest is

  pub back : (P : Sitter → Type 0) (xs ys : List Sitter) → All P (xs ++ ys) → All P ys
  back P [] ys has = has
  back P (x ∷ xs) ys has = back P xs ys (All-tail P x (xs ++ ys) has)

  -- no client has the session
  none_taken : (n : ℕ) (clients : List Client) → IsFalse (is_taken clients n) → All (λ (c : Client). (c.session == n) ≡ false) clients
  none_taken n [] is = All-nil (λ (c : Client). (c.session == n) ≡ false)
  none_taken n (c ∷ clients) is = by (c.session == n) refl is (none_taken n clients)
    where
      by : (mine : Bool) → (c.session == n) ≡ mine → IsFalse (mine || is_taken clients n) → (IsFalse (is_taken clients n) → All (λ (k : Client). (k.session == n) ≡ false) clients) → All (λ (k : Client). (k.session == n) ≡ false) (c ∷ clients)
      by true at none rest = absurd (cc (none))
      by false at none rest = All-cons (λ (k : Client). (k.session == n) ≡ false) c clients at (rest none)

  -- the transactions of all workers' clients, if all sessions of the store are there
  pub have_run : (workers : ℕ) (clients : List Client) (dealt : List (List Client)) (given_up : ℕ) (idle worked : List Sitter) → 1 ≤ workers → IsDealt workers clients dealt
      → HaveWorked st (clients_in dealt) given_up worked → All IsFresh idle → All (IsSitterSettled st h) (idle ++ worked) → HasAll st.sessions (idle ++ worked) → HaveRunBy st h clients given_up
  have_run workers clients dealt given_up idle worked some is have fresh settled all =
      let ran = clients_ran (clients_in dealt) given_up worked have (back (IsSitterSettled st h) idle worked settled) in
      record {
        each = of_dealt (HasRunBy st h) workers clients dealt some is ran.0;
        count = ran.1 ∙ same_total left_of workers clients dealt some is ∙ sym (same_left clients);
        alone = alone;
      }
    where
      alone : (session : ℕ) → 1 ≤ session → session ≤ st.sessions → IsFalse (is_taken clients session) → commits_of session (log_of h) ≡ []
      alone (suc k) low high free =
          let none = to_dealt (λ (c : Client). (c.session == suc k) ≡ false) workers clients dealt is (none_taken (suc k) clients free) in
          let there : has_sitter (idle ++ worked) (suc k) ≡ true = ap (has_sitter (idle ++ worked)) (omega arith) ∙ all k (omega (arith, high)) in
          idle_alone (suc k) idle fresh (first_ones (IsSitterSettled st h) idle worked settled) (there_append (suc k) idle worked (taken (suc k) (clients_in dealt) given_up worked have none) there)
      alone zero low high free = absurd (omega (arith, low))

-- new sessions have no calls
pub all_fresh : (count : ℕ) → All IsFresh (new_sitters count)
all_fresh zero = All-nil IsFresh
all_fresh (suc count) = All-push IsFresh (new_sitters count) (sitter (suc count) [] []) (all_fresh count) refl
