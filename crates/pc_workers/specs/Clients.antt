-- The receipts that a client's loop adds to its session: one for each job that was committed, with the job's writes.
use Rattle.pc_types.specs.declared.Change.TheVariants as change
use Rattle.std.specs.Prelude.{◌≡◌, ◌++◌, ℕ, Bool, true, false, List, [], ◌∷◌, Some, None, length, map}
use Rattle.pc_types.specs.declared.Receipt.{Receipt}
use Rattle.pc_types.specs.declared.Write.{Write}
use Rattle.pc_types.specs.Changes.{change_to}
use Rattle.pc_model.specs.Database.{with_write, write_of}
use Rattle.pc_model.specs.History.{is_open}
use Rattle.pc_model.specs.Receipts.{own_of}
use Rattle.pc_model.specs.Replies.{Setting}
use Rattle.pc_jobs.specs.declared.works.Job.{Job}
use Rattle.pc_jobs.specs.declared.works.Op.{Op}
use Rattle.pc_jobs.specs.declared.works.Op.TheVariants.{Get, Put, Del, Add}
use Rattle.pc_shared.specs.Sitters.{Sitter}
use Rattle.pc_workers.specs.Attempts.{AreTried}
use Rattle.pc_workers.specs.declared.clients.EndedTransaction.{EndedTransaction}
use Rattle.pc_workers.specs.declared.clients.EndedTransaction.TheVariants.{Committed, Died, Refused}

-- the writes of a transaction once it has made the operation too
abbrev pub wrote : List Write → Op → List Write
wrote writes (Get key) = writes
wrote writes (Put key value) = with_write writes (write_of key (change_to (Some value)))
wrote writes (Del key) = with_write writes (write_of key (change_to None))
wrote writes (Add key delta) = with_write writes (write_of key (change.Add delta))

-- and once it has made all of these
abbrev pub wrote_all : List Write → List Op → List Write
wrote_all writes [] = writes
wrote_all writes (op ∷ ops) = wrote_all (wrote writes op) ops

-- a job's writes: of each key the last write, in the order in which the keys were first written
abbrev pub job_writes : Job → List Write
job_writes job = wrote_all [] job.ops

-- the writes of the session's transaction, by its history
abbrev pub session_writes : Sitter → List Write
session_writes s = (own_of s.number s.seen).writes

-- the session still has its number, and after its receipts one with each of these lists of writes
pub record HasCommitted (done : List (List Write)) (old new : Sitter) : Type 0 where
  pub number : new.number ≡ old.number
  pub more : List Receipt
  pub receipts : new.receipts ≡ old.receipts ++ more
  pub writes : map (λ (r : Receipt). r.writes) more ≡ done

-- the committed writes of a transaction with these writes that ended in this way
abbrev pub done_by : EndedTransaction → List Write → List (List Write)
done_by Committed writes = writes ∷ []
done_by Died writes = []
done_by Refused writes = []

-- the writes of the jobs that are marked
abbrev pub marked : List Bool → List Job → List (List Write)
marked [] jobs = []
marked (mark ∷ marks) [] = []
marked (true ∷ marks) (job ∷ jobs) = job_writes job ∷ marked marks jobs
marked (false ∷ marks) (job ∷ jobs) = marked marks jobs

-- Of the jobs those that are marked were committed in their order, this many, and the others given up.
pub record HasRun (jobs : List Job) (commits : ℕ) (old new : Sitter) : Type 0 where
  pub marks : List Bool
  pub one_each : length marks ≡ length jobs
  pub committed : HasCommitted (marked marks jobs) old new
  pub count : length (marked marks jobs) ≡ commits

-- Besides, each of the jobs was tried, if the session had no transaction open, and was committed if and only if it is marked.
pub record HasTried (st : Setting) (jobs : List Job) (commits : ℕ) (old new : Sitter) : Type 0 where
  pub run : HasRun jobs commits old new
  pub tried : is_open old.number old.seen ≡ false → AreTried st old.number run.marks jobs old.seen new.seen
