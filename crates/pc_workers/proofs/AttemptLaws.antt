-- How attempts at a job go on, call by call, and jobs in order.
use Rattle.std.proofs.Common.{◌≡◌, ◌≢◌, ◌<◌, ◌++◌, ℕ, ◌+◌, zero, suc, Bool, true, false, List, [], ◌∷◌, length, take, drop, get_or, append-nil, refl, sym, ap, subst, ◌∙◌, inl, inr, arith}
use Rattle.std.proofs.lemmas.List.{take_more, drop_more, take-append-drop}
use Rattle.pc_types.specs.declared.Event.TheVariants as asked
use Rattle.pc_types.specs.declared.Refusal.{Refusal}
use Rattle.pc_types.specs.declared.Reply.{Reply}
use Rattle.pc_types.specs.declared.Reply.TheVariants as told
use Rattle.pc_model.specs.History.{History, is_open}
use Rattle.pc_model.specs.Replies.{Setting}
use Rattle.pc_model.specs.Calls.{step_of, Extends, IsAnswered}
use Rattle.pc_jobs.specs.declared.works.Job.{Job}
use Rattle.pc_jobs.specs.declared.works.Op.{Op}
use Rattle.pc_jobs.specs.declared.works.Op.TheVariants.{Get, Put, Del, Add}
use Rattle.pc_workers.specs.Attempts.{op_event, IsOpMade, Dies, WasBegun, WasAborted, AreMade, OneDies, IsRefusedOp, IsStuck, IsAttempt, AreDeaths, IsLast, IsTried, AreTried}
use Rattle.pc_workers.specs.Courses.{IsCourse, IsRepeated, mark_of}
use Rattle.pc_workers.specs.declared.clients.EndedTransaction.{EndedTransaction}
use Rattle.pc_workers.specs.declared.clients.EndedTransaction.TheVariants.{Committed, Died, Refused}
use Rattle.pc_workers.specs.declared.clients.TheConstants.{MOST_REPEATS}
use Rattle.pc_workers.proofs.OpenLaws.{begun_open, committed_closed, aborted_closed, read_stays, put_stays, del_stays, add_stays}

pub not_committed : (ended : EndedTransaction) → ended ≡ Refused → ended ≢ Committed
not_committed Refused is other = cc
not_committed Committed is other = cc
not_committed Died is other = cc

module _ (st : Setting) (s : ℕ) where
  -- ---- the operations

  op_stays : (op : Op) (reply : Reply) (a b : History) → Extends st a (step_of (op_event s op) reply) b → is_open s b ≡ is_open s a
  op_stays (Get key) reply a b ext = read_stays st s a b key reply ext
  op_stays (Put key value) reply a b ext = put_stays st s a b key value reply ext
  op_stays (Del key) reply a b ext = del_stays st s a b key reply ext
  op_stays (Add key delta) reply a b ext = add_stays st s a b key delta reply ext

  made_stays : (ops : List Op) (a b : History) → AreMade st s ops a b → is_open s b ≡ is_open s a
  made_stays [] a b made = ap (is_open s) made
  made_stays (op ∷ ops) a b (between, one, made) = made_stays ops between b made ∙ op_stays op one.0 a between one.2

  made_more : (ops : List Op) (op : Op) (a b c : History) → AreMade st s ops a b → IsOpMade st s op b c → AreMade st s (ops ++ op ∷ []) a c
  made_more [] op a b c made one = (c, subst (λ (h : History). IsOpMade st s op h c) made one, refl)
  made_more (o ∷ ops) op a b c (between, first, made) one = (between, first, made_more ops op between b c made one)

  module _ (ops : List Op) (i : ℕ) (op : Op) (low : i < length ops) (is : op ≡ get_or ops i op) (a b : History) (made : AreMade st s (take i ops) a b) where
    parted : ops ≡ take i ops ++ op ∷ drop (i + 1) ops
    parted = sym (take-append-drop i ops) ∙ ap (λ l. take i ops ++ l) (drop_more ops i op low) ∙ ap (λ (o : Op). take i ops ++ o ∷ drop (i + 1) ops) (sym is)

    -- one more was made
    pub made_next : (c : History) → IsOpMade st s op b c → AreMade st s (take (i + 1) ops) a c
    made_next c one =
        subst (λ (l : List Op). AreMade st s l a c) (sym (take_more ops i op low ∙ ap (λ (o : Op). take i ops ++ o ∷ []) (sym is))) (made_more (take i ops) op a b c made one)

    -- the next one died
    pub next_dies : (c : History) → Dies st s op b c → OneDies st s ops a c
    next_dies c dies = record { made = take i ops; next = op; left = drop (i + 1) ops; between = b; parts = parted; first = made; dies = dies }

    -- or was refused, and nothing has changed
    pub next_is_refused : (n : ℕ) → n ≡ s → (c : History) → c ≡ b → (cause : Refusal) → IsRefusedOp st n op cause b → IsStuck st s ops a c
    next_is_refused n number c same cause refused =
        let mine : IsRefusedOp st s op cause b = subst (λ (m : ℕ). IsRefusedOp st m op cause b) number refused in
        let stuck : IsStuck st s ops a b = record { made = take i ops; left = op ∷ drop (i + 1) ops; parts = parted; first = made; refused = (cause, mine) } in
        subst (λ (h : History). IsStuck st s ops a h) (sym same) stuck

  -- all were made, and the commit was refused
  pub commit_is_refused : (ops : List Op) (a b c : History) (n m : ℕ) → n ≡ s → m ≡ s → AreMade st n ops a b → c ≡ b → (cause : Refusal) → IsAnswered st m b (asked.Commit m) (told.Refused cause) → IsStuck st s ops a c
  commit_is_refused ops a b c n m one other made same cause refused =
      let all : AreMade st s ops a b = subst (λ (k : ℕ). AreMade st k ops a b) one made in
      let mine : IsAnswered st s b (asked.Commit s) (told.Refused cause) = subst (λ (k : ℕ). IsAnswered st k b (asked.Commit k) (told.Refused cause)) other refused in
      let stuck : IsStuck st s ops a b = record { made = ops; left = []; parts = sym (append-nil ops); first = all; refused = (cause, mine) } in
      subst (λ (h : History). IsStuck st s ops a h) (sym same) stuck

  -- or made
  pub commit_is_made : (ops : List Op) (a begun made b : History) (n m : ℕ) → n ≡ s → m ≡ s → WasBegun st s a begun → AreMade st n ops begun made → (number : ℕ) → Extends st made (step_of (asked.Commit m) (told.Committed number)) b → IsCourse st s ops Committed a b
  commit_is_made ops a begun made b n m one other begins all number commits = (
    begun,
    made,
    begins,
    subst (λ (k : ℕ). AreMade st k ops begun made) one all,
    (number, subst (λ (k : ℕ). Extends st made (step_of (asked.Commit k) (told.Committed number)) b) other commits),
  )

  -- ---- an attempt

  dead_is_open : (ops : List Op) (a begun b : History) → WasBegun st s a begun → OneDies st s ops begun b → is_open s b ≡ true
  dead_is_open ops a begun b begins one = op_stays one.next told.Died one.between b one.dies ∙ made_stays one.made begun one.between one.first ∙ begun_open st s a begun begins.0 begins.1

  stuck_is_open : (ops : List Op) (a begun b : History) → WasBegun st s a begun → IsStuck st s ops begun b → is_open s b ≡ true
  stuck_is_open ops a begun b begins stuck = made_stays stuck.made begun b stuck.first ∙ begun_open st s a begun begins.0 begins.1

  -- none is open after it
  attempt_closes : (ops : List Op) (ended : EndedTransaction) (a b : History) → IsAttempt st s ops ended a b → is_open s a ≡ false → is_open s b ≡ false
  attempt_closes ops Committed a b (begun, made, begins, all, commits) idle = committed_closed st s made b commits.0 commits.1
  attempt_closes ops Died a b (begun, dead, begins, one, aborts) idle = aborted_closed st s dead b aborts
  attempt_closes ops Refused a b (inl (same, cause, refused)) idle = ap (is_open s) same ∙ idle
  attempt_closes ops Refused a b (inr (begun, stuck, begins, at, aborts)) idle = aborted_closed st s stuck b aborts

  -- the attempt that results if the open transaction is aborted
  aborted_attempt : (ops : List Op) (ended : EndedTransaction) (a b c : History) → ended ≢ Committed → IsCourse st s ops ended a b → is_open s a ≡ false → (is_open s b ≡ true → WasAborted st s b c) → (is_open s b ≡ false → c ≡ b) → IsAttempt st s ops ended a c
  aborted_attempt ops Committed a b c not course idle aborts stays = absurd (not refl)
  aborted_attempt ops Died a b c not (begun, begins, one) idle aborts stays = (begun, b, begins, one, aborts (dead_is_open ops a begun b begins one))
  aborted_attempt ops Refused a b c not (inl (same, cause, refused)) idle aborts stays = inl (stays (ap (is_open s) same ∙ idle) ∙ same, cause, refused)
  aborted_attempt ops Refused a b c not (inr (begun, begins, stuck)) idle aborts stays = inr (begun, b, begins, stuck, aborts (stuck_is_open ops a begun b begins stuck))

  -- the same with the number that the session has afterwards
  pub aborted_at : (ops : List Op) (ended : EndedTransaction) (a b c : History) (n : ℕ) → n ≡ s → ended ≢ Committed → IsCourse st s ops ended a b → is_open s a ≡ false → (is_open n b ≡ true → WasAborted st n b c) → (is_open n b ≡ false → c ≡ b) → IsAttempt st s ops ended a c
  aborted_at ops ended a b c n number not course idle aborts stays =
      aborted_attempt ops ended a b c not course idle (subst (λ (m : ℕ). is_open m b ≡ true → WasAborted st m b c) number aborts) (subst (λ (m : ℕ). is_open m b ≡ false → c ≡ b) number stays)

  -- ---- attempts

  deaths_close : (ops : List Op) (n : ℕ) (a b : History) → AreDeaths st s ops n a b → is_open s a ≡ false → is_open s b ≡ false
  deaths_close ops zero a b none idle = ap (is_open s) none ∙ idle
  deaths_close ops (suc n) a b (between, before, last) idle = attempt_closes ops Died between b last (deaths_close ops n a between before idle)

  earlier_death : (ops : List Op) (n : ℕ) (a b c : History) → IsAttempt st s ops Died a b → AreDeaths st s ops n b c → AreDeaths st s ops (suc n) a c
  earlier_death ops zero a b c one none = (a, refl, subst (λ (h : History). IsAttempt st s ops Died a h) (sym none) one)
  earlier_death ops (suc n) a b c one (between, before, last) = (between, earlier_death ops n a b between one before, last)

  module _ (ops : List Op) (a b c : History) (m : ℕ) (number : m ≡ s) (ended : EndedTransaction) (last : is_open m b ≡ false → IsAttempt st m ops ended b c) where
    mine : is_open s b ≡ false → IsAttempt st s ops ended b c
    mine = subst (λ (k : ℕ). is_open k b ≡ false → IsAttempt st k ops ended b c) number last

    -- it died once more
    pub one_more_death : ended ≡ Died → (n : ℕ) → AreDeaths st s ops n a b → is_open s a ≡ false → AreDeaths st s ops (n + 1) a c
    one_more_death died n before idle =
        let more : suc n ≡ n + 1 = omega arith in
        let it : IsAttempt st s ops Died b c = subst (λ (e : EndedTransaction). IsAttempt st s ops e b c) died (mine (deaths_close ops n a b before idle)) in
        subst (λ (k : ℕ). AreDeaths st s ops k a c) more (b, before, it)

    -- or ended otherwise
    pub ended_at : ended ≢ Died → (n : ℕ) → n < MOST_REPEATS → AreDeaths st s ops n a b → is_open s a ≡ false → IsRepeated st s ops ended a c
    ended_at not n few before idle = record { deaths = n; few = few; between = b; before = before; last = mine (deaths_close ops n a b before idle); as_often = λ e. absurd (not e) }

  -- each time it died
  pub always_died : (ops : List Op) (n : ℕ) (a b : History) → n ≡ MOST_REPEATS → AreDeaths st s ops n a b → IsRepeated st s ops Died a b
  always_died ops zero a b all none = absurd (omega (arith, all))
  always_died ops (suc n) a b all (between, before, last) =
      record { deaths = n; few = omega (arith, all); between = between; before = before; last = last; as_often = λ _. omega (arith, all) }

  last_at_once : (ended : EndedTransaction) → ended ≢ Died → IsLast (mark_of ended) 0 ended
  last_at_once Committed not = refl
  last_at_once Died not = absurd (not refl)
  last_at_once Refused not = inl refl

  last_at : (ended : EndedTransaction) (n : ℕ) → (ended ≡ Died → n ≡ MOST_REPEATS) → IsLast (mark_of ended) n ended
  last_at Committed n all = refl
  last_at Died n all = inr (refl, all refl)
  last_at Refused n all = inl refl

  -- ---- a job

  -- its first attempt didn't die
  pub tried_once : (job : Job) (ended : EndedTransaction) (a b : History) → is_open s a ≡ false → IsAttempt st s job.ops ended a b → ended ≢ Died → IsTried st s job (mark_of ended) a b
  tried_once job ended a b idle attempt not =
      record {
        deaths = 0;
        few = omega arith;
        between = a;
        before = refl;
        ended = ended;
        last = attempt;
        is_last = last_at_once ended not;
        closed = attempt_closes job.ops ended a b attempt idle;
      }

  -- it died, and the job was begun again
  pub tried_again : (job : Job) (ended : EndedTransaction) (a b c : History) (n : ℕ) → n ≡ s → is_open s a ≡ false → IsAttempt st s job.ops Died a b → (is_open n b ≡ false → IsRepeated st n job.ops ended b c) → IsTried st s job (mark_of ended) a c
  tried_again job ended a b c n number idle died again =
      let idle' : is_open s b ≡ false = attempt_closes job.ops Died a b died idle in
      let more : IsRepeated st s job.ops ended b c = subst (λ (m : ℕ). is_open m b ≡ false → IsRepeated st m job.ops ended b c) number again idle' in
      record {
        deaths = suc more.deaths;
        few = omega (arith, more.few);
        between = more.between;
        before = earlier_death job.ops more.deaths a b more.between died more.before;
        ended = ended;
        last = more.last;
        is_last = last_at ended (suc more.deaths) (λ e. omega (arith, more.as_often e));
        closed = attempt_closes job.ops ended more.between c more.last (deaths_close job.ops more.deaths b more.between more.before idle');
      }

  -- ---- jobs

  pub tried_closes : (marks : List Bool) (jobs : List Job) (a b : History) → AreTried st s marks jobs a b → is_open s a ≡ false → is_open s b ≡ false
  tried_closes [] [] a b none idle = ap (is_open s) none ∙ idle
  tried_closes [] (j ∷ jobs) a b tried idle = absurd tried
  tried_closes (m ∷ marks) [] a b tried idle = absurd tried
  tried_closes (m ∷ marks) (j ∷ jobs) a b (between, one, tried) idle = tried_closes marks jobs between b tried one.closed

  -- these jobs, and then those
  pub tried_join : (marks more : List Bool) (jobs next : List Job) (a b c : History) → AreTried st s marks jobs a b → AreTried st s more next b c → AreTried st s (marks ++ more) (jobs ++ next) a c
  tried_join [] more [] next a b c none tried = subst (λ (h : History). AreTried st s more next h c) none tried
  tried_join [] more (j ∷ jobs) next a b c tried then = absurd tried
  tried_join (m ∷ marks) more [] next a b c tried then = absurd tried
  tried_join (m ∷ marks) more (j ∷ jobs) next a b c (between, one, tried) then = (between, one, tried_join marks more jobs next between b c tried then)

  pub tried_one : (mark : Bool) (job : Job) (a b : History) → IsTried st s job mark a b → AreTried st s (mark ∷ []) (job ∷ []) a b
  tried_one mark job a b one = (b, one, refl)
