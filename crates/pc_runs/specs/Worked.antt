-- The transactions that the clients of a workload have done, by the one history of their store.
use Rattle.std.specs.Prelude.{◌≡◌, ◌≤◌, ◌+◌, ◌-◌, ◌==◌, ℕ, Bool, List, [], ◌∷◌, IsFalse, All, if◌then◌else◌, length}
use Rattle.pc_types.specs.declared.Entry.{Entry}
use Rattle.pc_types.specs.declared.Entry.TheVariants.{Commit, Token}
use Rattle.pc_types.specs.declared.Write.{Write}
use Rattle.pc_model.specs.Calls.{HasCallsOf}
use Rattle.pc_model.specs.History.{History, log_of}
use Rattle.pc_model.specs.Replies.{Setting}
use Rattle.pc_jobs.specs.declared.works.Client.{Client}
use Rattle.pc_threads.specs.Clients.{AreDone, is_taken, jobs_of}
use Rattle.pc_workers.specs.Clients.{marked}

-- the session's commits: the writes of each of its commits in the log, in order
abbrev pub commits_of : ℕ → List Entry → List (List Write)
commits_of s [] = []
commits_of s (Commit session writes ∷ log) = if session == s then writes ∷ commits_of s log else commits_of s log
commits_of s (Token phase point ∷ log) = commits_of s log

-- The client's session has committed just the writes of those of the client's transactions that are marked, in their order; and
-- with the calls that the history has of it, and no others, its works were done in this way: each transaction was tried, and those
-- that aren't marked were given up for the reasons there.
pub record HasRunBy (st : Setting) (history : History) (client : Client) : Type 0 where
  pub marks : List Bool
  pub one_each : length marks ≡ length (jobs_of client)
  pub commits : commits_of client.session (log_of history) ≡ marked marks (jobs_of client)
  pub seen : History
  pub calls : HasCallsOf history client.session seen
  pub done : AreDone st client.works client.session marks [] seen

-- the number of the clients' transactions that have not committed
abbrev pub left_over : List Entry → List Client → ℕ
left_over log [] = 0
left_over log (client ∷ clients) = (length (jobs_of client) - length (commits_of client.session log)) + left_over log clients

-- Each client has run, and all transactions that have not committed were given up; of the store's sessions, no other has committed
-- anything.
pub record HaveRunBy (st : Setting) (history : History) (clients : List Client) (given_up : ℕ) : Type 0 where
  pub each : All (HasRunBy st history) clients
  pub count : given_up ≡ left_over (log_of history) clients
  pub alone : (session : ℕ) → 1 ≤ session → session ≤ st.sessions → IsFalse (is_taken clients session) → commits_of session (log_of history) ≡ []
