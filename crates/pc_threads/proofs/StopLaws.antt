-- A cause that stops some of a client's transactions stops them all, and at most as many are given up as there are.
use Rattle.std.proofs.Common.{◌≡◌, ◌⊎◌, ℕ, zero, suc, ◌+◌, ◌<◌, ◌≤◌, ◌^◌, ◌++◌, Bool, true, false, List, [], ◌∷◌, length, length-append, map, take, drop, get_or, refl, sym, ap, subst, ◌∙◌, inl, inr, arith}
use Rattle.std.specs.List.{flat_map}
use Rattle.std.specs.Prelude.{IsTrue, ◌||◌, Option, Some, None, is_some}
use Rattle.std.proofs.lemmas.List.{drop_more, take-append-drop}
use Rattle.std.proofs.lemmas.List.Concat.{flat_map-append}
use Rattle.pc_types.specs.declared.refusal.Refusal.{Refusal}
use Rattle.pc_types.specs.declared.refusal.Refusal.TheVariants.{Full, Device, OutOfMemory}
use Rattle.pc_types.specs.declared.refusal.Refusal.TheVariants as why
use Rattle.pc_model.specs.History.{History}
use Rattle.pc_model.specs.Replies.{Setting}
use Rattle.pc_jobs.specs.declared.works.Client.{Client}
use Rattle.pc_jobs.specs.declared.works.Fill.{Fill}
use Rattle.pc_jobs.specs.declared.works.Job.{Job}
use Rattle.pc_jobs.specs.declared.works.ClientTask.{ClientTask}
use Rattle.pc_jobs.specs.Jobs.{job_of}
use Rattle.pc_shared.specs.Sitters.{Sitter}
use Rattle.pc_io.specs.Counted.{HasRisen}
use Rattle.pc_io.specs.declared.tally.Tally.{Tally}
use Rattle.pc_texts.specs.declared.file_names.FileName.{FileName}
use Rattle.pc_threads.specs.declared.fault.ThreadsFault.{ThreadsFault}
use Rattle.pc_threads.specs.declared.fault.ThreadsFault.TheVariants as fault
use Rattle.pc_threads.specs.Clients.{HasDone, ClientHasStopped, HaveStopped, HaveWorked, clients_in, first_jobs, jobs_in, jobs_of, transactions_in}
use Rattle.pc_threads.specs.declared.files.FileFault.{FileFault}
use Rattle.pc_threads.specs.declared.files.FileFault.TheVariants as lost
use Rattle.pc_threads.specs.declared.threads.LogFault.{LogFault}
use Rattle.pc_threads.specs.Faults.{IsFileLost, IsThreadsEnd, IsStop, IsWorkersStop, LogHasStopped, ThreadsHaveStopped, lost_file_fault, lost_log_fault, stop_of_workers}
use Rattle.pc_threads.specs.Files.{RefusesNoMore}
use Rattle.pc_threads.specs.declared.stop.ThreadsStop.{ThreadsStop}
use Rattle.pc_threads.specs.declared.stop.ThreadsStop.TheVariants as stop

-- at most as many are given up as there are
pub at_most : (way : ℕ → List Bool → History → History → Type 0) (jobs : List Job) (given_up : ℕ) (old new : Sitter) → HasDone way jobs given_up old new → given_up ≤ length jobs
at_most way jobs given_up old new it = omega (arith, it.all)

pub clients_at_most : (st : Setting) (clients : List Client) (given_up : ℕ) (sessions : List Sitter) → HaveWorked st clients given_up sessions → given_up ≤ length (flat_map jobs_of clients)
clients_at_most st [] given_up [] none = omega (arith, none)
clients_at_most st (c ∷ clients) given_up (s ∷ sessions) (own, others, sum, has, have) =
    let rest = clients_at_most st clients others sessions have in
    omega (arith, sum, rest, has.all, length-append (jobs_of c) (flat_map jobs_of clients))
clients_at_most st [] given_up (s ∷ sessions) have = absurd have
clients_at_most st (c ∷ clients) given_up [] have = absurd have

-- the first of a fill are this many
first_count : (fill : Fill) (count : ℕ) → length (first_jobs fill count) ≡ count
first_count fill zero = refl
first_count fill (suc count) = omega (arith, length-append (first_jobs fill count) (job_of fill count ∷ []), first_count fill count)

-- those of the works before one and its own are among all
of_works : (works : List ClientTask) (i : ℕ) (work : ClientTask) → i < length works → work ≡ get_or works i work → length (flat_map jobs_in (take i works)) + length (jobs_in work) ≤ length (flat_map jobs_in works)
of_works works i work low is =
    let front : List ClientTask = take i works in
    let behind : List ClientTask = drop (i + 1) works in
    let parted : works ≡ front ++ work ∷ behind = sym (take-append-drop i works) ∙ ap (λ (ws : List ClientTask). front ++ ws) (drop_more works i work low) ∙ ap (λ (w : ClientTask). front ++ w ∷ behind) (sym is) in
    let jobs : flat_map jobs_in works ≡ flat_map jobs_in front ++ (jobs_in work ++ flat_map jobs_in behind) = ap (flat_map jobs_in) parted ∙ flat_map-append jobs_in front (work ∷ behind) in
    let all = ap length jobs in
    omega (arith, all, length-append (flat_map jobs_in front) (jobs_in work ++ flat_map jobs_in behind), length-append (jobs_in work) (flat_map jobs_in behind))

-- and those of the clients before one
of_clients : (clients : List Client) (client : Client) (rest whole : List Client) → clients ++ client ∷ rest ≡ whole → length (flat_map jobs_of clients) + length (jobs_of client) ≤ length (flat_map jobs_of whole)
of_clients clients client rest whole is =
    let jobs : flat_map jobs_of whole ≡ flat_map jobs_of clients ++ (jobs_of client ++ flat_map jobs_of rest) = ap (flat_map jobs_of) (sym is) ∙ flat_map-append jobs_of clients (client ∷ rest) in
    let all = ap length jobs in
    omega (arith, all, length-append (flat_map jobs_of clients) (jobs_of client ++ flat_map jobs_of rest), length-append (jobs_of client) (flat_map jobs_of rest))

module _ (has_log : Bool) where
  -- the cause that stops some of them
  more_stop : (some all : List Job) (why : Refusal) → length some ≤ length all → ClientHasStopped has_log some why → ClientHasStopped has_log all why
  more_stop some all why low (inl device) = inl device
  more_stop some all why low (inr (full, many)) = inr (full, omega (arith, low, many))

  -- more were given up than can be counted
  too_many : (all : List Job) (a b : ℕ) (why : Refusal) → a + b ≤ length all → (why ≡ Full) × (2 ^ 64 ≤ a + b) → ClientHasStopped has_log all why
  too_many all a b why low (full, many) = inr (full, omega (arith, low, many))

  -- ---- of a fill

  module _ (fill : Fill) (number : ℕ) (low : number < fill.count) where
    one : length (job_of fill number ∷ []) ≡ 1
    one = refl

    pub fill_stops : (why : Refusal) → ClientHasStopped has_log (job_of fill number ∷ []) why → ClientHasStopped has_log (first_jobs fill fill.count) why
    fill_stops why stopped = more_stop (job_of fill number ∷ []) (first_jobs fill fill.count) why (omega (arith, low, one, first_count fill fill.count)) stopped

    pub fill_counts : (given_up more : ℕ) (why : Refusal) → given_up ≤ length (first_jobs fill number) → more ≤ length (job_of fill number ∷ []) → (why ≡ Full) × (2 ^ 64 ≤ given_up + more) → ClientHasStopped has_log (first_jobs fill fill.count) why
    fill_counts given_up more why few own full = too_many (first_jobs fill fill.count) given_up more why (omega (arith, low, few, own, one, first_count fill number, first_count fill fill.count)) full

  -- ---- of works

  module _ (works : List ClientTask) (i : ℕ) (work : ClientTask) (low : i < length works) (is : work ≡ get_or works i work) where
    pub work_stops : (why : Refusal) → ClientHasStopped has_log (jobs_in work) why → ClientHasStopped has_log (flat_map jobs_in works) why
    work_stops why stopped = let part = of_works works i work low is in more_stop (jobs_in work) (flat_map jobs_in works) why (omega (arith, part)) stopped

    pub works_count : (given_up more : ℕ) (why : Refusal) → given_up ≤ length (flat_map jobs_in (take i works)) → more ≤ length (jobs_in work) → (why ≡ Full) × (2 ^ 64 ≤ given_up + more) → ClientHasStopped has_log (flat_map jobs_in works) why
    works_count given_up more why few own full = let part = of_works works i work low is in too_many (flat_map jobs_in works) given_up more why (omega (arith, part, few, own)) full

  -- ---- of clients

  module _ {X : Type 0} (f : X → Client) (clients : List Client) (x : X) (rest all : List X) (whole : List Client) (is : all ≡ x ∷ rest) (was : clients ++ map f all ≡ whole) where
    parted : clients ++ f x ∷ map f rest ≡ whole
    parted = ap (λ (xs : List X). clients ++ map f xs) (sym is) ∙ was

    pub client_stops : (why : Refusal) → ClientHasStopped has_log (jobs_of (f x)) why → HaveStopped has_log whole why
    client_stops why stopped = let part = of_clients clients (f x) (map f rest) whole parted in inr (more_stop (jobs_of (f x)) (flat_map jobs_of whole) why (omega (arith, part)) stopped)

    pub clients_count : (given_up more : ℕ) (why : Refusal) → given_up ≤ length (flat_map jobs_of clients) → more ≤ length (jobs_of (f x)) → (why ≡ Full) × (2 ^ 64 ≤ given_up + more) → HaveStopped has_log whole why
    clients_count given_up more why few own full = let part = of_clients clients (f x) (map f rest) whole parted in inr (too_many (flat_map jobs_of whole) given_up more why (omega (arith, part, few, own)) full)

-- ---- of a run

-- the cause that stops one thread is one for more transactions and more points
pub wider_stop : (m n p q : ℕ) (given : Refusal) → m ≤ n → p ≤ q → IsStop m p given → IsStop n q given
wider_stop m n p q why.OutOfMemory low few stop = tt
wider_stop m n p q why.Full low few stop = omega (arith, low, stop)
wider_stop m n p q why.PointsFull low few stop = omega (arith, few, stop)
wider_stop m n p q other low few stop = absurd stop

pub wider_workers : (has_log : Bool) (m n : ℕ) (given : Refusal) → m ≤ n → IsWorkersStop has_log m given → IsWorkersStop has_log n given
wider_workers has_log m n given low (inl device) = inl device
wider_workers has_log m n given low (inr stop) = inr (wider_stop m n 0 0 given low (omega arith) stop)

pub more_end : {T : Type 0} (refuses : FileName → Refusal → Type 0) (a b : Bool) (m n p q : ℕ) (given : ThreadsFault T) → (IsTrue a → IsTrue b) → m ≤ n → p ≤ q → IsThreadsEnd refuses a m p given → IsThreadsEnd refuses b n q given
more_end refuses a b m n p q (fault.Refused why) on low few end = wider_stop m n p q why low few end
more_end refuses a b m n p q (fault.Unmade file why) on low few end = (on end.0, end.1)
more_end refuses a b m n p q (fault.Failed file) on low few end = (on end.0, end.1)
more_end refuses a b m n p q fault.NoThread on low few end = tt

module _ (transactions points : ℕ) where
  pub memory_stops : (given : Refusal) → given ≡ OutOfMemory → IsStop transactions points given
  memory_stops given is = subst (IsStop transactions points) (sym is) tt

-- a count that has risen isn't 0
pub some_failed : (old new : ℕ) → HasRisen old new → 1 ≤ new
some_failed old new risen = omega (arith, risen)

-- a file that was lost ends it
pub lost_ends : {T : Type 0} (refuses : FileName → Refusal → Type 0) (name : FileName) (failures : ℕ) (given : FileFault T) → IsFileLost refuses name failures given → IsThreadsEnd refuses true 0 0 (lost_file_fault given)
lost_ends refuses name failures (lost.Unmade file why) is = (refl, subst (λ (other : FileName). refuses other why) (sym is.0) is.1)
lost_ends refuses name failures (lost.Failed file) risen = (refl, some_failed failures file.failures risen)

-- what an earlier folder refused
module _ (old new : FileName → Refusal → Type 0) (no_more : RefusesNoMore old new) where
  pub lost_before : {T : Type 0} (name : FileName) (failures : ℕ) (given : FileFault T) → IsFileLost new name failures given → IsFileLost old name failures given
  lost_before name failures (lost.Unmade file why) is = (is.0, no_more name why is.1)
  lost_before name failures (lost.Failed file) risen = risen

  pub end_before : {T : Type 0} (writes : Bool) (transactions points : ℕ) (given : ThreadsFault T) → IsThreadsEnd new writes transactions points given → IsThreadsEnd old writes transactions points given
  end_before writes transactions points (fault.Refused why) end = end
  end_before writes transactions points (fault.Unmade file why) end = (end.0, no_more file why end.1)
  end_before writes transactions points (fault.Failed file) end = end
  end_before writes transactions points fault.NoThread end = end

-- why clients stop
pub stopped_ends : (has_log : Bool) (clients : List Client) (given : Refusal) → HaveStopped has_log clients given → IsWorkersStop has_log (transactions_in clients) given
stopped_ends has_log clients given (inl memory) = inr (memory_stops (transactions_in clients) 0 given memory)
stopped_ends has_log clients given (inr (inl (device, there))) = inl (device, there)
stopped_ends has_log clients given (inr (inr (full, many))) = inr (subst (IsStop (transactions_in clients) 0) (sym full) many)

-- the transactions of one worker's clients with those of the workers before it
pub of_worker : {X : Type 0} (f : X → List Client) (clients : List Client) (x : X) (rest all : List X) (whole : List Client) → all ≡ x ∷ rest → clients ++ clients_in (map f all) ≡ whole
    → transactions_in clients + transactions_in (f x) ≤ transactions_in whole
of_worker f clients x rest all whole is was =
    let others : List Client = clients_in (map f rest) in
    let parted : whole ≡ clients ++ (f x ++ others) = sym was ∙ ap (λ xs. clients ++ clients_in (map f xs)) is in
    let jobs : flat_map jobs_of whole ≡ flat_map jobs_of clients ++ flat_map jobs_of (f x ++ others) = ap (flat_map jobs_of) parted ∙ flat_map-append jobs_of clients (f x ++ others) in
    let own : flat_map jobs_of (f x ++ others) ≡ flat_map jobs_of (f x) ++ flat_map jobs_of others = flat_map-append jobs_of (f x) others in
    let all_count = ap length jobs in
    let own_count = ap length own in
    omega (arith, all_count, own_count, length-append (flat_map jobs_of clients) (flat_map jobs_of (f x ++ others)), length-append (flat_map jobs_of (f x)) (flat_map jobs_of others))

-- more of two workers' transactions were given up than can be counted
pub both_stop : (transactions a b : ℕ) (given : Refusal) → a + b ≤ transactions → (given ≡ OutOfMemory) ⊎ ((given ≡ Full) × (2 ^ 64 ≤ a + b)) → IsStop transactions 0 given
both_stop transactions a b given low (inl memory) = memory_stops transactions 0 given memory
both_stop transactions a b given low (inr (full, many)) = subst (IsStop transactions 0) (sym full) (omega (arith, low, many))

pub left_true : (a b : Bool) → IsTrue a → IsTrue (a || b)
left_true true b is = refl
left_true false b is = cc (is)

pub right_true : (a b : Bool) → IsTrue b → IsTrue (a || b)
right_true true b is = refl
right_true false b is = is

-- ---- why the other threads stop

-- a fault that stops some of the threads stops the run
pub more_stop_of : {N T : Type 0} (refuses : FileName → Refusal → Type 0) (st : Setting) (a b : Bool) (clients : List Client) (points : ℕ) (given : ThreadsStop N T) → (IsTrue a → IsTrue b) → ThreadsHaveStopped refuses st a clients points given → ThreadsHaveStopped refuses st b clients points given
more_stop_of refuses st a b clients points (stop.LogFull full ran) on stopped = stopped
more_stop_of refuses st a b clients points stop.LogEnded on there = on there
more_stop_of refuses st a b clients points (stop.Other why) on end = more_end refuses a b (transactions_in clients) (transactions_in clients) points points why on (omega arith) (omega arith) end

-- why workers stop
pub workers_end : (N T : Type 0) (refuses : FileName → Refusal → Type 0) (st : Setting) (has_log there : Bool) (clients : List Client) (points : ℕ) (given : Refusal) → IsWorkersStop has_log (transactions_in clients) given
    → ThreadsHaveStopped {N = N} {T = T} refuses st (has_log || there) clients points (stop_of_workers given)
workers_end N T refuses st has_log there clients points why.Device (inl (is, on)) = left_true has_log there on
workers_end N T refuses st has_log there clients points why.Device (inr end) = absurd end
workers_end N T refuses st has_log there clients points other (inl (is, on)) = cc (is)
workers_end N T refuses st has_log there clients points other (inr end) = wider_stop (transactions_in clients) (transactions_in clients) 0 points other (omega arith) (omega arith) end

-- why the logger stops
pub logger_ends : {T : Type 0} (refuses : FileName → Refusal → Type 0) (hands : Bool) (log : Option (Tally T)) (n points : ℕ) (stop : LogFault T) → LogHasStopped log stop → IsThreadsEnd refuses (hands || is_some log) n points (lost_log_fault stop.why stop.out)
logger_ends refuses hands None n points stop stopped = absurd stopped
logger_ends refuses hands (Some log) n points stop (inl memory) = subst (λ (given : Refusal). IsThreadsEnd refuses (hands || true) n points (lost_log_fault given stop.out)) (sym memory) tt
logger_ends refuses hands (Some log) n points stop (inr (device, risen)) =
    subst (λ (given : Refusal). IsThreadsEnd refuses (hands || true) n points (lost_log_fault given stop.out)) (sym device) (right_true hands true refl, some_failed log.failures stop.out.failures risen)
