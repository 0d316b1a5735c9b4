-- Runs of jobs in order are one run of all of them.
use Rattle.std.proofs.Common.{◌≡◌, ℕ, ◌+◌, ◌++◌, Bool, true, false, List, [], ◌∷◌, length, length-append, refl, sym, ap, subst, ◌∙◌, arith}
use Rattle.pc_types.specs.declared.Write.{Write}
use Rattle.pc_model.specs.History.{is_open}
use Rattle.pc_model.specs.Replies.{Setting}
use Rattle.pc_jobs.specs.declared.works.Job.{Job}
use Rattle.pc_shared.specs.Sitters.{Sitter}
use Rattle.pc_workers.specs.Attempts.{AreTried}
use Rattle.pc_workers.specs.Clients.{HasCommitted, HasRun, HasTried, marked, job_writes}
use Rattle.pc_workers.proofs.AttemptLaws.{tried_closes, tried_join}
use Rattle.pc_workers.proofs.ClientJobs.{same_committed, then_committed}

pub marked_join : (marks more : List Bool) (jobs next : List Job) → length marks ≡ length jobs → marked (marks ++ more) (jobs ++ next) ≡ marked marks jobs ++ marked more next
marked_join [] more [] next same = refl
marked_join [] more (j ∷ jobs) next same = absurd (omega (arith, same))
marked_join (m ∷ marks) more [] next same = absurd (omega (arith, same))
marked_join (true ∷ marks) more (j ∷ jobs) next same = ap (λ ws. job_writes j ∷ ws) (marked_join marks more jobs next (omega (arith, same)))
marked_join (false ∷ marks) more (j ∷ jobs) next same = marked_join marks more jobs next (omega (arith, same))

-- if there is nothing to do nothing was done
pub no_jobs_run : (s : Sitter) → HasRun [] 0 s s
no_jobs_run s = record { marks = []; one_each = refl; committed = same_committed s s refl refl; count = refl }

-- a job was given up, and the session stays
pub job_is_left : (job : Job) (s : Sitter) → HasRun (job ∷ []) 0 s s
job_is_left job s = record { marks = false ∷ []; one_each = refl; committed = same_committed s s refl refl; count = refl }

pub runs_chain : (jobs next : List Job) (commits more : ℕ) (first between last : Sitter) → HasRun jobs commits first between → HasRun next more between last → HasRun (jobs ++ next) (commits + more) first last
runs_chain jobs next commits more first between last a b =
    let is = marked_join a.marks b.marks jobs next a.one_each in
    record {
      marks = a.marks ++ b.marks;
      one_each = length-append a.marks b.marks ∙ ap (λ n. n + length b.marks) a.one_each ∙ ap (λ n. length jobs + n) b.one_each ∙ sym (length-append jobs next);
      committed = subst (λ (d : List (List Write)). HasCommitted d first last) (sym is) (then_committed (marked a.marks jobs) (marked b.marks next) first between last a.committed b.committed);
      count = ap length is ∙ length-append (marked a.marks jobs) (marked b.marks next) ∙ ap (λ n. n + length (marked b.marks next)) a.count ∙ ap (λ n. commits + n) b.count;
    }

-- which jobs are marked in these runs
pub no_marks : (s : Sitter) → (no_jobs_run s).marks ≡ []
unfolding no_jobs_run
no_marks s = refl

pub left_mark : (job : Job) (s : Sitter) → (job_is_left job s).marks ≡ false ∷ []
unfolding job_is_left
left_mark job s = refl

pub marks_chain : (jobs next : List Job) (commits more : ℕ) (first between last : Sitter) (a : HasRun jobs commits first between) (b : HasRun next more between last) → (runs_chain jobs next commits more first between last a b).marks ≡ a.marks ++ b.marks
unfolding runs_chain
marks_chain jobs next commits more first between last a b = refl

-- ---- the same of jobs that were tried

pub no_jobs_tried : (st : Setting) (s : Sitter) → HasTried st [] 0 s s
unfolding no_jobs_run
no_jobs_tried st s = record { run = no_jobs_run s; tried = λ _. refl }

pub tries_chain : (st : Setting) (jobs next : List Job) (commits more : ℕ) (first between last : Sitter) → HasTried st jobs commits first between → HasTried st next more between last → HasTried st (jobs ++ next) (commits + more) first last
unfolding runs_chain
tries_chain st jobs next commits more first between last a b =
    record {
      run = runs_chain jobs next commits more first between last a.run b.run;
      tried = λ idle.
          let s : ℕ = first.number in
          let earlier : AreTried st s a.run.marks jobs first.seen between.seen = a.tried idle in
          let closed : is_open s between.seen ≡ false = tried_closes st s a.run.marks jobs first.seen between.seen earlier idle in
          let later : AreTried st s b.run.marks next between.seen last.seen =
          subst (λ (n : ℕ). is_open n between.seen ≡ false → AreTried st n b.run.marks next between.seen last.seen) a.run.committed.number b.tried closed in
          tried_join st s a.run.marks b.run.marks jobs next first.seen between.seen last.seen earlier later;
    }
