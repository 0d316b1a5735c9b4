-- The transactions that the clients of a run have done, each as its session.
use Rattle.std.specs.Prelude.{◌≡◌, ◌⊎◌, ◌≤◌, ◌+◌, ◌^◌, ◌==◌, ◌||◌, ⊤, ℕ, zero, suc, Bool, true, false, IsTrue, List, [], ◌∷◌, ◌++◌, length}
use Rattle.std.specs.List.{flat_map, list_any}
use Rattle.pc_types.specs.declared.refusal.Refusal.{Refusal}
use Rattle.pc_types.specs.declared.refusal.Refusal.TheVariants.{Device, Full, OutOfMemory}
use Rattle.pc_model.specs.History.{History, is_open}
use Rattle.pc_model.specs.Replies.{Setting}
use Rattle.pc_jobs.specs.declared.works.Client.{Client}
use Rattle.pc_jobs.specs.declared.works.Fill.{Fill}
use Rattle.pc_jobs.specs.declared.works.Job.{Job}
use Rattle.pc_jobs.specs.declared.works.Op.{Op}
use Rattle.pc_jobs.specs.declared.works.ClientTask.{ClientTask}
use Rattle.pc_jobs.specs.declared.works.ClientTask.TheVariants as work
use Rattle.pc_jobs.specs.Jobs.{job_of}
use Rattle.pc_shared.specs.Sitters.{Sitter, has_sitter, sitter}
use Rattle.pc_workers.specs.Attempts.{TakesMemory, IsTried, AreTried}
use Rattle.pc_workers.specs.Clients.{HasRun}

-- the first transactions of a fill, the given number of them
abbrev pub first_jobs : Fill → ℕ → List Job
first_jobs fill zero = []
first_jobs fill (suc count) = first_jobs fill count ++ job_of fill count ∷ []

-- the transactions of a piece of work, in order
abbrev pub jobs_in : ClientTask → List Job
jobs_in (work.Once job) = job ∷ []
jobs_in (work.Fill fill) = first_jobs fill fill.count

-- those of a client
abbrev pub jobs_of : Client → List Job
jobs_of client = flat_map jobs_in client.works

-- the number of the clients' transactions
abbrev pub transactions_in : List Client → ℕ
transactions_in clients = length (flat_map jobs_of clients)

-- no call was made as the session
abbrev pub IsFresh : Sitter → Type 0
IsFresh s = s ≡ sitter s.number [] []

-- the session is that of one of the clients
abbrev pub is_taken : List Client → ℕ → Bool
is_taken clients session = list_any (λ client. client.session == session) clients

-- each client's session is in the list, and no two clients have one session
abbrev pub HaveSeats : List Sitter → List Client → Type 0
HaveSeats sessions [] = ⊤
HaveSeats sessions (client ∷ clients) = (has_sitter sessions client.session ≡ true) × (is_taken clients client.session ≡ false) × HaveSeats sessions clients

-- each session that was in the list is still there, or one of the clients has it
abbrev pub AreSeated : List Client → List Sitter → List Sitter → Type 0
AreSeated clients old new = (session : ℕ) → has_sitter old session ≡ true → (has_sitter new session || is_taken clients session) ≡ true

-- An allocation failed while a transaction was made, which names a key or a value too long to be kept inline: it isn't marked as
-- committed, and made no call.
abbrev pub IsJobUnmade : Job → Bool → History → History → Type 0
IsJobUnmade job mark early late = (mark ≡ false) × (late ≡ early) × ((op : Op) × (job.ops ≡ op ∷ []) × TakesMemory op)

-- The transactions of a fill, of which those that are marked were committed, were each tried, or couldn't be made, in order:
-- between these two histories that the session had seen before and has seen now.
abbrev pub AreFillsTried : Setting → List Job → ℕ → List Bool → History → History → Type 0
AreFillsTried st [] s [] early late = late ≡ early
AreFillsTried st (job ∷ jobs) s (mark ∷ marks) early late = (between : History) × (IsTried st s job mark early between ⊎ IsJobUnmade job mark early between) × AreFillsTried st jobs s marks between late
AreFillsTried st jobs s marks early late = ⊥

-- a piece of work was done: a single transaction was tried
abbrev pub IsTaskDone : Setting → ClientTask → ℕ → List Bool → History → History → Type 0
IsTaskDone st (work.Once job) s marks early late = AreTried st s marks (job ∷ []) early late
IsTaskDone st (work.Fill fill) s marks early late = AreFillsTried st (first_jobs fill fill.count) s marks early late

-- works were done, in order
abbrev pub AreDone : Setting → List ClientTask → ℕ → List Bool → History → History → Type 0
AreDone st [] s marks early late = (marks ≡ []) × (late ≡ early)
AreDone st (w ∷ works) s marks early late = (own others : List Bool) × (between : History) × (marks ≡ own ++ others) × IsTaskDone st w s own early between × AreDone st works s others between late

-- Of the transactions those that are marked were committed, and this many others given up; and if the session had no transaction
-- open, they were done in this way.
pub record HasDone (way : ℕ → List Bool → History → History → Type 0) (jobs : List Job) (given_up : ℕ) (old new : Sitter) : Type 0 where
  pub commits : ℕ
  pub run : HasRun jobs commits old new
  pub all : commits + given_up ≡ length jobs
  pub done : is_open old.number old.seen ≡ false → way old.number run.marks old.seen new.seen

-- Why a client or fill of these transactions has stopped before their end: the log's file was lost, if there is one; or more of
-- them were given up than 64 bits can count.
abbrev pub ClientHasStopped : Bool → List Job → Refusal → Type 0
ClientHasStopped has_log jobs why = ((why ≡ Device) × IsTrue has_log) ⊎ ((why ≡ Full) × (2 ^ 64 ≤ length jobs))

-- the client has done its works, from a fresh session on, and given up this many transactions
abbrev pub HasWorked : Setting → Client → ℕ → Sitter → Type 0
HasWorked st client given_up session = HasDone (AreDone st client.works) (jobs_of client) given_up (sitter client.session [] []) session

-- the clients have, each as the session at its place, and have given up this many in total
abbrev pub HaveWorked : Setting → List Client → ℕ → List Sitter → Type 0
HaveWorked st [] given_up [] = given_up ≡ 0
HaveWorked st (client ∷ clients) given_up (session ∷ sessions) = (own others : ℕ) × (given_up ≡ own + others) × HasWorked st client own session × HaveWorked st clients others sessions
HaveWorked st clients given_up sessions = ⊥

-- why clients have stopped: an allocation failed, or one of them has stopped
abbrev pub HaveStopped : Bool → List Client → Refusal → Type 0
HaveStopped has_log clients why = (why ≡ OutOfMemory) ⊎ ClientHasStopped has_log (flat_map jobs_of clients) why

-- the clients of all workers, worker by worker
abbrev pub clients_in : List (List Client) → List Client
clients_in workers = flat_map (λ clients. clients) workers
