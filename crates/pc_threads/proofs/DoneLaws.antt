-- How the done work goes on, transaction by transaction and work by work.
use Rattle.std.proofs.Common.{◌≡◌, ℕ, ◌+◌, ◌++◌, Bool, false, List, [], ◌∷◌, Result, Ok, Err, IfOk, length, length-append, refl, sym, ap, subst, ◌∙◌, inl, inr, arith}
use Rattle.std.proofs.lemmas.List.{append-nil, append_assoc}
use Rattle.pc_model.specs.History.{History, is_open}
use Rattle.pc_model.specs.Replies.{Setting}
use Rattle.pc_jobs.specs.declared.works.Job.{Job}
use Rattle.pc_jobs.specs.declared.works.Op.{Op}
use Rattle.pc_jobs.specs.declared.works.ClientTask.{ClientTask}
use Rattle.pc_jobs.specs.declared.works.ClientTask.TheVariants as work
use Rattle.pc_shared.specs.Sitters.{Sitter}
use Rattle.pc_workers.specs.Attempts.{TakesMemory, AreTried}
use Rattle.pc_workers.specs.Clients.{HasTried}
use Rattle.pc_workers.proofs.AttemptLaws.{tried_closes}
use Rattle.pc_workers.proofs.RunLaws.{job_is_left, left_mark, marks_chain, no_jobs_run, no_marks, runs_chain}
use Rattle.pc_threads.specs.Clients.{AreDone, AreFillsTried, HasDone, IsTaskDone, first_jobs}

module _ (st : Setting) where
  -- no transaction is open after those of a fill
  pub filled_closes : (jobs : List Job) (s : ℕ) (marks : List Bool) (a b : History) → AreFillsTried st jobs s marks a b → is_open s a ≡ false → is_open s b ≡ false
  filled_closes [] s [] a b none idle = ap (is_open s) none ∙ idle
  filled_closes [] s (m ∷ marks) a b filled idle = absurd filled
  filled_closes (j ∷ jobs) s [] a b filled idle = absurd filled
  filled_closes (j ∷ jobs) s (m ∷ marks) a b (between, inl tried, filled) idle = filled_closes jobs s marks between b filled tried.closed
  filled_closes (j ∷ jobs) s (m ∷ marks) a b (between, inr (unmarked, same, takes), filled) idle = filled_closes jobs s marks between b filled (ap (is_open s) same ∙ idle)

  -- nor after a piece of work
  work_closes : (w : ClientTask) (s : ℕ) (marks : List Bool) (a b : History) → IsTaskDone st w s marks a b → is_open s a ≡ false → is_open s b ≡ false
  work_closes (work.Once job) s marks a b done idle = tried_closes st s marks (job ∷ []) a b done idle
  work_closes (work.Fill fill) s marks a b done idle = filled_closes (first_jobs fill fill.count) s marks a b done idle

  -- nor after works
  pub works_close : (works : List ClientTask) (s : ℕ) (marks : List Bool) (a b : History) → AreDone st works s marks a b → is_open s a ≡ false → is_open s b ≡ false
  works_close [] s marks a b (none, same) idle = ap (is_open s) same ∙ idle
  works_close (w ∷ works) s marks a b (own, others, between, parts, one, rest) idle = works_close works s others between b rest (work_closes w s own a between one idle)

  -- these transactions of a fill, and then those
  pub filled_join : (jobs next : List Job) (s : ℕ) (marks more : List Bool) (a b c : History) → AreFillsTried st jobs s marks a b → AreFillsTried st next s more b c → AreFillsTried st (jobs ++ next) s (marks ++ more) a c
  filled_join [] next s [] more a b c none then = subst (λ (h : History). AreFillsTried st next s more h c) none then
  filled_join [] next s (m ∷ marks) more a b c filled then = absurd filled
  filled_join (j ∷ jobs) next s [] more a b c filled then = absurd filled
  filled_join (j ∷ jobs) next s (m ∷ marks) more a b c (between, one, filled) then = (between, one, filled_join jobs next s marks more between b c filled then)

  -- works, and then one more
  pub works_more : (works : List ClientTask) (w : ClientTask) (s : ℕ) (marks own : List Bool) (a b c : History) → AreDone st works s marks a b → IsTaskDone st w s own b c → AreDone st (works ++ w ∷ []) s (marks ++ own) a c
  works_more [] w s marks own a b c (none, same) one =
      (own, [], c, ap (λ (ms : List Bool). ms ++ own) none ∙ sym (append-nil own), subst (λ (h : History). IsTaskDone st w s own h c) same one, (refl, refl))
  works_more (v ∷ works) w s marks own a b c (first, others, between, parts, one, rest) next =
      (first, others ++ own, between, ap (λ (ms : List Bool). ms ++ own) parts ∙ append_assoc first others own, one, works_more works w s others own between b c rest next)

  -- those of a fill that were all tried
  tried_filled : (jobs : List Job) (s : ℕ) (marks : List Bool) (a b : History) → AreTried st s marks jobs a b → AreFillsTried st jobs s marks a b
  tried_filled [] s [] a b none = none
  tried_filled [] s (m ∷ marks) a b tried = absurd tried
  tried_filled (j ∷ jobs) s [] a b tried = absurd tried
  tried_filled (j ∷ jobs) s (m ∷ marks) a b (between, one, tried) = (between, inl one, tried_filled jobs s marks between b tried)

  -- ---- with the session's receipts

  -- a transaction that the client's loop has run
  pub tried_is_done : (job : Job) (jobs : List Job) (commits given_up : ℕ) (old new : Sitter) → jobs ≡ job ∷ [] → HasTried st jobs commits old new → commits + given_up ≡ length jobs
      → HasDone (IsTaskDone st (work.Once job)) (job ∷ []) given_up old new
  tried_is_done job jobs commits given_up old new is tried all =
      let it : HasTried st (job ∷ []) commits old new = subst (λ (js : List Job). HasTried st js commits old new) is tried in
      record { commits = commits; run = it.run; all = all ∙ ap length is; done = it.tried }

  -- the same as one of a fill's
  pub filled_one : (job : Job) (given_up : ℕ) (old new : Sitter) → HasDone (IsTaskDone st (work.Once job)) (job ∷ []) given_up old new → HasDone (AreFillsTried st (job ∷ [])) (job ∷ []) given_up old new
  filled_one job given_up old new it =
      record { commits = it.commits; run = it.run; all = it.all; done = λ idle. tried_filled (job ∷ []) old.number it.run.marks old.seen new.seen (it.done idle) }

  -- and of the result of the loop's caller
  pub filled_ones : {E : Type 0} (job asked : Job) (result : Result ℕ E) (old new : Sitter) → asked ≡ job → IfOk result (λ given_up. HasDone (IsTaskDone st (work.Once asked)) (asked ∷ []) given_up old new)
      → IfOk result (λ given_up. HasDone (AreFillsTried st (job ∷ [])) (job ∷ []) given_up old new)
  filled_ones job asked (Ok given_up) old new is it = subst (λ (j : Job). HasDone (AreFillsTried st (j ∷ [])) (j ∷ []) given_up old new) is (filled_one asked given_up old new it)
  filled_ones job asked (Err why) old new is it = tt

  -- one of a fill that couldn't be made
  pub unmade_one : (job : Job) (op : Op) (s : Sitter) → job.ops ≡ op ∷ [] → TakesMemory op → HasDone (AreFillsTried st (job ∷ [])) (job ∷ []) 1 s s
  unmade_one job op s one takes =
      let left : AreFillsTried st (job ∷ []) s.number (false ∷ []) s.seen s.seen = (s.seen, inr (refl, refl, (op, one, takes)), refl) in
      record { commits = 0; run = job_is_left job s; all = refl; done = λ _. subst (λ (marks : List Bool). AreFillsTried st (job ∷ []) s.number marks s.seen s.seen) (sym (left_mark job s)) left }

-- nothing is done yet
pub nothing_done : (way : ℕ → List Bool → History → History → Type 0) (s : Sitter) → way s.number [] s.seen s.seen → HasDone way [] 0 s s
nothing_done way s none =
    record { commits = 0; run = no_jobs_run s; all = refl; done = λ _. subst (λ (marks : List Bool). way s.number marks s.seen s.seen) (sym (no_marks s)) none }

-- these transactions, and then those
pub done_then : (one two both : ℕ → List Bool → History → History → Type 0)
    → ((s : ℕ) (marks : List Bool) (a b : History) → one s marks a b → is_open s a ≡ false → is_open s b ≡ false)
    → ((s : ℕ) (marks more : List Bool) (a b c : History) → one s marks a b → two s more b c → both s (marks ++ more) a c)
    → (jobs more : List Job) (given_up next : ℕ) (first between last : Sitter) → HasDone one jobs given_up first between → HasDone two more next between last → HasDone both (jobs ++ more) (given_up + next) first last
done_then one two both closes joins jobs more given_up next first between last a b =
    record {
      commits = a.commits + b.commits;
      run = runs_chain jobs more a.commits b.commits first between last a.run b.run;
      all = omega (arith, a.all, b.all, length-append jobs more);
      done = λ idle.
          let s : ℕ = first.number in
          let earlier : one s a.run.marks first.seen between.seen = a.done idle in
          let closed : is_open s between.seen ≡ false = closes s a.run.marks first.seen between.seen earlier idle in
          let later : two s b.run.marks between.seen last.seen =
          subst (λ (n : ℕ). is_open n between.seen ≡ false → two n b.run.marks between.seen last.seen) a.run.committed.number b.done closed in
          subst (λ (marks : List Bool). both s marks first.seen last.seen) (sym (marks_chain jobs more a.commits b.commits first between last a.run b.run))
          (joins s a.run.marks b.run.marks first.seen between.seen last.seen earlier later);
    }
