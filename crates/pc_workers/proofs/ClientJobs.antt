-- The effect of a session's calls on its transaction's writes, and the committed writes of jobs.
use Rattle.pc_types.specs.declared.Change.TheVariants.{Add}
use Rattle.std.proofs.Common.{◌≡◌, ◌≢◌, ℕ, ◌+◌, ◌<◌, ◌==◌, ◌++◌, Bool, true, false, List, [], ◌∷◌, Some, None, Result, Ok, Err, IfOk, length, map, take, get_or, append-nil, length-append, refl, sym, ap, subst, ◌∙◌, arith}
use Rattle.std.specs.Prelude.{if◌then◌else◌, ℤ}
use Rattle.std.proofs.lemmas.Bool.Decides.{nat_tests}
use Rattle.std.proofs.lemmas.List.{append_assoc, map-append, take_more}
use Rattle.pc_types.specs.declared.Event.TheVariants as asked
use Rattle.pc_types.specs.declared.Receipt.{Receipt}
use Rattle.pc_types.specs.declared.Refusal.{Refusal}
use Rattle.pc_types.specs.declared.Reply.TheVariants as told
use Rattle.pc_types.specs.declared.Write.{Write}
use Rattle.pc_types.specs.Changes.{change_to}
use Rattle.pc_model.specs.Database.{with_write, write_of}
use Rattle.pc_model.specs.History.{History, is_open}
use Rattle.pc_model.specs.Replies.{Setting}
use Rattle.pc_model.specs.Calls.{step_of, Extends}
use Rattle.pc_model.specs.Receipts.{Own, own_of}
use Rattle.pc_model.proofs.SessionCallLaws.{makes_own}
use Rattle.pc_txn.specs.declared.got.Got.TheVariants as got
use Rattle.pc_jobs.specs.declared.works.Job.{Job}
use Rattle.pc_jobs.specs.declared.works.Op.{Op}
use Rattle.pc_shared.specs.declared.session.CallAnswer.{CallAnswer}
use Rattle.pc_shared.specs.declared.session.CallAnswer.TheVariants as answer
use Rattle.pc_shared.specs.Answers.{IsReadAnswered, IsWriteAnswered, IsAddAnswered}
use Rattle.pc_shared.specs.Sitters.{Sitter}
use Rattle.pc_workers.specs.Attempts.{IsTried, AreTried}
use Rattle.pc_workers.specs.Clients.{wrote, wrote_all, job_writes, session_writes, done_by, HasCommitted, HasRun, HasTried, marked}
use Rattle.pc_workers.specs.Courses.{mark_of}
use Rattle.pc_workers.specs.declared.clients.EndedTransaction.{EndedTransaction}
use Rattle.pc_workers.specs.declared.clients.EndedTransaction.TheVariants.{Committed, Died, Refused}
use Rattle.pc_workers.proofs.AttemptLaws.{tried_closes, tried_join, tried_one}

itself : (s : ℕ) → (s == s) ≡ true
itself s = grind (arith, nat_tests)

module _ (st : Setting) (s : ℕ) (before after : History) where
  pub begun : (t : ℕ) → Extends st before (step_of (asked.Begin s) (told.Begun t)) after → (own_of s after).writes ≡ []
  begun t ext = ap (λ (o : Own). o.writes) (makes_own st before (step_of (asked.Begin s) (told.Begun t)) after ext) ∙ ap (λ b. if b then [] else (own_of s before).writes) (itself s)

  read : (key : List ℕ) (a : CallAnswer) → IsReadAnswered st before s key a after → a ≢ answer.Died → (own_of s after).writes ≡ (own_of s before).writes
  read key a (got.Found value, is, ext) alive = ap (λ (o : Own). o.writes) (makes_own st before (step_of (asked.Get s key) (told.Found value)) after ext)
  read key a (got.Absent, is, ext) alive = ap (λ (o : Own). o.writes) (makes_own st before (step_of (asked.Get s key) told.Absent) after ext)
  read key a (got.Died, is, ext) alive = absurd (alive is)

  put : (key value : List ℕ) (a : CallAnswer) → IsWriteAnswered st before (asked.Put s key value) a after → a ≢ answer.Died → (own_of s after).writes ≡ with_write (own_of s before).writes (write_of key (change_to (Some value)))
  put key value a (true, is, ext) alive =
      ap (λ (o : Own). o.writes) (makes_own st before (step_of (asked.Put s key value) told.Ok) after ext)
      ∙ ap (λ b. if b then with_write (own_of s before).writes (write_of key (change_to (Some value))) else (own_of s before).writes) (itself s)
  put key value a (false, is, ext) alive = absurd (alive is)

  del : (key : List ℕ) (a : CallAnswer) → IsWriteAnswered st before (asked.Del s key) a after → a ≢ answer.Died → (own_of s after).writes ≡ with_write (own_of s before).writes (write_of key (change_to None))
  del key a (true, is, ext) alive =
      ap (λ (o : Own). o.writes) (makes_own st before (step_of (asked.Del s key) told.Ok) after ext)
      ∙ ap (λ b. if b then with_write (own_of s before).writes (write_of key (change_to None)) else (own_of s before).writes) (itself s)
  del key a (false, is, ext) alive = absurd (alive is)

  add : (key : List ℕ) (delta : ℤ) (a : CallAnswer) → IsAddAnswered st before (asked.Add s key delta) a after → a ≢ answer.Died → (own_of s after).writes ≡ with_write (own_of s before).writes (write_of key (Add delta))
  add key delta a (Some sum, is, ext) alive =
      ap (λ (o : Own). o.writes) (makes_own st before (step_of (asked.Add s key delta) (told.Sum sum)) after ext)
      ∙ ap (λ b. if b then with_write (own_of s before).writes (write_of key (Add delta)) else (own_of s before).writes) (itself s)
  add key delta a (None, is, ext) alive = absurd (alive is)

-- a call's result determines the writes
module _ (st : Setting) (old new : Sitter) (same : new.number ≡ old.number) where
  abbrev Wrote : List Write → Result CallAnswer Refusal → Type 0
  Wrote writes result = IfOk result (λ a. a ≢ answer.Died → session_writes new ≡ writes)

  now : (writes : List Write) → (own_of old.number new.seen).writes ≡ writes → session_writes new ≡ writes
  now writes is = ap (λ n. (own_of n new.seen).writes) same ∙ is

  pub get_wrote : (key : List ℕ) (result : Result CallAnswer Refusal) → IfOk result (λ a. IsReadAnswered st old.seen old.number key a new.seen) → Wrote (session_writes old) result
  get_wrote key (Ok a) call = λ alive. now (session_writes old) (read st old.number old.seen new.seen key a call alive)
  get_wrote key (Err why) call = tt

  pub put_wrote : (key value : List ℕ) (result : Result CallAnswer Refusal) → IfOk result (λ a. IsWriteAnswered st old.seen (asked.Put old.number key value) a new.seen) → Wrote (with_write (session_writes old) (write_of key (change_to (Some value)))) result
  put_wrote key value (Ok a) call = λ alive. now (with_write (session_writes old) (write_of key (change_to (Some value)))) (put st old.number old.seen new.seen key value a call alive)
  put_wrote key value (Err why) call = tt

  pub del_wrote : (key : List ℕ) (result : Result CallAnswer Refusal) → IfOk result (λ a. IsWriteAnswered st old.seen (asked.Del old.number key) a new.seen) → Wrote (with_write (session_writes old) (write_of key (change_to None))) result
  del_wrote key (Ok a) call = λ alive. now (with_write (session_writes old) (write_of key (change_to None))) (del st old.number old.seen new.seen key a call alive)
  del_wrote key (Err why) call = tt

  pub add_wrote : (key : List ℕ) (delta : ℤ) (result : Result CallAnswer Refusal) → IfOk result (λ a. IsAddAnswered st old.seen (asked.Add old.number key delta) a new.seen) → Wrote (with_write (session_writes old) (write_of key (Add delta))) result
  add_wrote key delta (Ok a) call = λ alive. now (with_write (session_writes old) (write_of key (Add delta))) (add st old.number old.seen new.seen key delta a call alive)
  add_wrote key delta (Err why) call = tt

-- ---- many operations

pub wrote_more : (writes : List Write) (ops : List Op) (op : Op) → wrote_all writes (ops ++ op ∷ []) ≡ wrote (wrote_all writes ops) op
wrote_more writes [] op = refl
wrote_more writes (o ∷ ops) op = wrote_more (wrote writes o) ops op

pub wrote_next : (writes : List Write) (ops : List Op) (i : ℕ) (op : Op) → i < length ops → op ≡ get_or ops i op → wrote_all writes (take (i + 1) ops) ≡ wrote (wrote_all writes (take i ops)) op
wrote_next writes ops i op low is = ap (wrote_all writes) (take_more ops i op low) ∙ wrote_more writes (take i ops) (get_or ops i op) ∙ ap (wrote (wrote_all writes (take i ops))) (sym is)

-- ---- the committed writes

-- nothing more was
pub same_committed : (old new : Sitter) → new.number ≡ old.number → new.receipts ≡ old.receipts → HasCommitted [] old new
same_committed old new number receipts = record { number = number; more = []; receipts = receipts ∙ sym (append-nil old.receipts); writes = refl }

pub then_committed : (first second : List (List Write)) (old between new : Sitter) → HasCommitted first old between → HasCommitted second between new → HasCommitted (first ++ second) old new
then_committed first second old between new a b =
    record {
      number = b.number ∙ a.number;
      more = a.more ++ b.more;
      receipts = b.receipts ∙ ap (λ rs. rs ++ b.more) a.receipts ∙ append_assoc old.receipts a.more b.more;
      writes = map-append (λ (r : Receipt). r.writes) a.more b.more ∙ ap (λ ws. ws ++ map (λ (r : Receipt). r.writes) b.more) a.writes ∙ ap (λ ws. first ++ ws) b.writes;
    }

pub marked_more : (marks : List Bool) (jobs : List Job) (job : Job) → length marks ≡ length jobs → marked (marks ++ true ∷ []) (jobs ++ job ∷ []) ≡ marked marks jobs ++ job_writes job ∷ []
marked_more [] [] job same = refl
marked_more [] (j ∷ jobs) job same = absurd (omega (arith, same))
marked_more (m ∷ marks) [] job same = absurd (omega (arith, same))
marked_more (true ∷ marks) (j ∷ jobs) job same = ap (λ ws. job_writes j ∷ ws) (marked_more marks jobs job (omega (arith, same)))
marked_more (false ∷ marks) (j ∷ jobs) job same = marked_more marks jobs job (omega (arith, same))

pub unmarked_more : (marks : List Bool) (jobs : List Job) (job : Job) → length marks ≡ length jobs → marked (marks ++ false ∷ []) (jobs ++ job ∷ []) ≡ marked marks jobs
unmarked_more [] [] job same = refl
unmarked_more [] (j ∷ jobs) job same = absurd (omega (arith, same))
unmarked_more (m ∷ marks) [] job same = absurd (omega (arith, same))
unmarked_more (true ∷ marks) (j ∷ jobs) job same = ap (λ ws. job_writes j ∷ ws) (unmarked_more marks jobs job (omega (arith, same)))
unmarked_more (false ∷ marks) (j ∷ jobs) job same = unmarked_more marks jobs job (omega (arith, same))

-- jobs with one more, which ended in this way
module _ (jobs : List Job) (job : Job) (commits : ℕ) (first old new : Sitter) (before : HasRun jobs commits first old) where
  run_committed : (more : ℕ) → HasCommitted (job_writes job ∷ []) old new → more ≡ commits + 1 → HasRun (jobs ++ job ∷ []) more first new
  run_committed more done count =
      let all = marked before.marks jobs in
      let is = marked_more before.marks jobs job before.one_each in
      record {
        marks = before.marks ++ true ∷ [];
        one_each = omega (arith, before.one_each, length-append before.marks (true ∷ []), length-append jobs (job ∷ []));
        committed = subst (λ (d : List (List Write)). HasCommitted d first new) (sym is) (then_committed all (job_writes job ∷ []) first old new before.committed done);
        count = ap length is ∙ length-append all (job_writes job ∷ []) ∙ ap (λ n. n + 1) before.count ∙ sym count;
      }

  run_given_up : (more : ℕ) → HasCommitted [] old new → more ≡ commits + 0 → HasRun (jobs ++ job ∷ []) more first new
  run_given_up more done count =
      let all = marked before.marks jobs in
      let is = unmarked_more before.marks jobs job before.one_each in
      record {
        marks = before.marks ++ false ∷ [];
        one_each = omega (arith, before.one_each, length-append before.marks (false ∷ []), length-append jobs (job ∷ []));
        committed = subst (λ (d : List (List Write)). HasCommitted d first new) (append-nil all ∙ sym is) (then_committed all [] first old new before.committed done);
        count = ap length is ∙ before.count ∙ omega (arith, count);
      }

  run_one : (ended : EndedTransaction) (more : ℕ) → HasCommitted (done_by ended (job_writes job)) old new → more ≡ commits + length (done_by ended []) → HasRun (jobs ++ job ∷ []) more first new
  run_one Committed more done count = run_committed more done count
  run_one Died more done count = run_given_up more done count
  run_one Refused more done count = run_given_up more done count

-- ---- and tried

module _ (st : Setting) (jobs : List Job) (job : Job) (commits : ℕ) (first old new : Sitter) (before : HasTried st jobs commits first old) where
  -- the jobs so far, and then this one
  then_tried : (mark : Bool) → (is_open old.number old.seen ≡ false → IsTried st old.number job mark old.seen new.seen) → is_open first.number first.seen ≡ false
      → AreTried st first.number (before.run.marks ++ mark ∷ []) (jobs ++ job ∷ []) first.seen new.seen
  then_tried mark one idle =
      let s : ℕ = first.number in
      let earlier : AreTried st s before.run.marks jobs first.seen old.seen = before.tried idle in
      let closed : is_open s old.seen ≡ false = tried_closes st s before.run.marks jobs first.seen old.seen earlier idle in
      let here : IsTried st s job mark old.seen new.seen = subst (λ (n : ℕ). is_open n old.seen ≡ false → IsTried st n job mark old.seen new.seen) before.run.committed.number one closed in
      tried_join st s before.run.marks (mark ∷ []) jobs (job ∷ []) first.seen old.seen new.seen earlier (tried_one st s mark job old.seen new.seen here)

  one_more : (ended : EndedTransaction) (more : ℕ) → HasCommitted (done_by ended (job_writes job)) old new → more ≡ commits + length (done_by ended [])
      → (is_open old.number old.seen ≡ false → IsTried st old.number job (mark_of ended) old.seen new.seen) → HasTried st (jobs ++ job ∷ []) more first new
  unfolding run_committed run_given_up
  one_more Committed more done count one = record { run = run_committed jobs job commits first old new before.run more done count; tried = then_tried true one }
  one_more Died more done count one = record { run = run_given_up jobs job commits first old new before.run more done count; tried = then_tried false one }
  one_more Refused more done count one = record { run = run_given_up jobs job commits first old new before.run more done count; tried = then_tried false one }

-- the same of the next of some jobs
pub tried_next : (st : Setting) (jobs : List Job) (i : ℕ) (job : Job) (commits : ℕ) (first old new : Sitter) → i < length jobs → job ≡ get_or jobs i job → HasTried st (take i jobs) commits first old
    → (ended : EndedTransaction) (more : ℕ) → HasCommitted (done_by ended (job_writes job)) old new → more ≡ commits + length (done_by ended [])
    → (is_open old.number old.seen ≡ false → IsTried st old.number job (mark_of ended) old.seen new.seen) → HasTried st (take (i + 1) jobs) more first new
tried_next st jobs i job commits first old new low is before ended more done count one =
    subst (λ (js : List Job). HasTried st js more first new) (sym (take_more jobs i job low ∙ ap (λ (j : Job). take i jobs ++ j ∷ []) (sym is)))
    (one_more st (take i jobs) job commits first old new before ended more done count one)
