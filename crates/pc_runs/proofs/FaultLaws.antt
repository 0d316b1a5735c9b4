-- The faults that end a run that has begun.
use Rattle.std.proofs.Common.{◌≡◌, ◌⊎◌, inl, inr, ℕ, ◌<◌, ◌≤◌, Bool, true, false, List, [], ◌∷◌, ◌++◌, All, Option, Some, None, length, length-append, refl, sym, subst, ◌∙◌, arith}
use Rattle.std.specs.Prelude.{IsTrue, ◌||◌, is_some}
use Rattle.std.specs.List.{flat_map}
use Rattle.pc_types.specs.declared.limits.TheConstants.{MOST_KEYS}
use Rattle.pc_types.specs.declared.refusal.Refusal.{Refusal}
use Rattle.pc_types.specs.declared.refusal.Refusal.TheVariants as why
use Rattle.pc_io.specs.declared.tally.Tally.{Tally}
use Rattle.pc_model.specs.Database.{Database, KeysRise, database_of}
use Rattle.pc_model.specs.Files.{BaseFile, File}
use Rattle.pc_model.specs.Maps.{len}
use Rattle.pc_model.specs.Replies.{Setting}
use Rattle.pc_jobs.specs.Dealing.{IsDealt}
use Rattle.pc_jobs.specs.declared.works.Client.{Client}
use Rattle.pc_jobs.specs.declared.works.Workload.{Workload}
use Rattle.pc_texts.specs.declared.file_names.FileName.{FileName}
use Rattle.pc_texts.specs.declared.file_names.FileName.TheVariants.{Base, Log}
use Rattle.pc_texts.proofs.StatePairLaws.{pairs_of}
use Rattle.pc_outcomes.specs.Leaving.{IsUntoldAfter, has_point}
use Rattle.pc_shared.specs.Sitters.{Sitter, HasAll, IsEndOf}
use Rattle.pc_threads.specs.Clients.{HaveWorked, IsFresh, clients_in, jobs_of, transactions_in}
use Rattle.pc_threads.specs.Faults.{IsFileLost, IsThreadsEnd, lost_file_fault}
use Rattle.pc_threads.proofs.StopLaws.{some_failed}
use Rattle.pc_threads.specs.Files.{HasWritten, RefusedBy, RefusesNoMore}
use Rattle.pc_threads.specs.declared.fault.ThreadsFault.{ThreadsFault}
use Rattle.pc_threads.specs.declared.fault.ThreadsFault.TheVariants as fault
use Rattle.pc_threads.specs.declared.stop.ThreadsStop.{ThreadsStop}
use Rattle.pc_threads.specs.declared.stop.ThreadsStop.TheVariants as stop
use Rattle.pc_threads.specs.declared.files.FileFault.{FileFault}
use Rattle.pc_threads.specs.declared.files.FileFault.TheVariants as lost
use Rattle.pc_workers.specs.Covering.{HaveJustTo}
use Rattle.pc_runs.specs.Faults.{EndsRun, IsFaultOfStop, IsRunRefused, StoreHasStopped}
use Rattle.pc_runs.specs.Folders.{HasBegunFiles, IsBeginLost, IsLogLost}
use Rattle.pc_runs.proofs.DealingLaws.{same_total, total}
use Rattle.pc_runs.proofs.FullLogLaws.{fills_log}

-- the clients of all workers have as many transactions as all clients
count_is : (clients : List Client) → transactions_in clients ≡ total (λ (c : Client). length (jobs_of c)) clients
count_is [] = refl
count_is (c ∷ clients) = let behind = count_is clients in omega (arith, behind, length-append (jobs_of c) (flat_map jobs_of clients))

pub same_transactions : (workers : ℕ) (clients : List Client) (all : List (List Client)) → 1 ≤ workers → IsDealt workers clients all → transactions_in (clients_in all) ≡ transactions_in clients
same_transactions workers clients all some dealt = count_is (clients_in all) ∙ (same_total (λ (c : Client). length (jobs_of c)) workers clients all some dealt ∙ sym (count_is clients))

-- if there is a folder, it has a file for the log
pub log_there : {D T : Type 0} (holds : D → FileName → List ℕ → Type 0) (contents : T → Option (List ℕ)) (blank : Option (List ℕ)) (base : BaseFile) (folder : Option D) (log : Option (Tally T))
    → HasBegunFiles holds contents blank base folder log → is_some log ≡ is_some folder
log_there holds contents blank base None None begun = refl
log_there holds contents blank base (Some folder) (Some log) begun = refl
log_there holds contents blank base None (Some log) begun = absurd begun
log_there holds contents blank base (Some folder) None begun = absurd begun

module _ (refuses : FileName → Refusal → Type 0) where
  -- a lost file of a run was refused for such a reason, or has counted a failed call
  abbrev pub IsLost : {T : Type 0} → FileFault T → Type 0
  IsLost (lost.Unmade file why) = refuses file why
  IsLost (lost.Failed file) = 1 ≤ file.failures

  file_lost : {T : Type 0} (name : FileName) (failures : ℕ) (given : FileFault T) → IsFileLost refuses name failures given → IsLost given
  file_lost name failures (lost.Unmade file why) is = subst (λ (other : FileName). refuses other why) (sym is.0) is.1
  file_lost name failures (lost.Failed file) risen = some_failed failures file.failures risen

  pub begin_lost : {T : Type 0} (given : FileFault T) → IsBeginLost refuses given → IsLost given
  begin_lost given (inl is) = file_lost Base 0 given is
  begin_lost {T} given (inr (why, is, refused)) = subst (IsLost {T = T}) (sym is) refused

module _ {D T : Type 0} (refuses : D → FileName → Refusal → Type 0) where
  pub log_lost : (folder : Option D) (log : Option (Tally T)) (given : FileFault T) → IsLogLost refuses folder log given → IsLost (RefusedBy refuses folder) given
  log_lost (Some folder) (Some log) given is = file_lost (refuses folder) Log log.failures given is
  log_lost (Some folder) None given is = absurd is
  log_lost None log given is = absurd is

  -- there is a folder if its log is lost
  pub log_lost_there : (folder : Option D) (log : Option (Tally T)) (given : FileFault T) → IsLogLost refuses folder log given → IsTrue (is_some folder)
  log_lost_there (Some folder) (Some log) given is = refl
  log_lost_there (Some folder) None given is = absurd is
  log_lost_there None log given is = absurd is

-- what a later folder refuses, the earlier one refused
module _ (old new : FileName → Refusal → Type 0) (no_more : RefusesNoMore old new) where
  pub lost_before : {T : Type 0} (given : FileFault T) → IsLost new given → IsLost old given
  lost_before (lost.Unmade file why) refused = no_more file why refused
  lost_before (lost.Failed file) counted = counted

  pub ends_before : {T : Type 0} (st : Setting) (workload : Workload) (a b : Bool) (given : ThreadsFault T) → a ≡ b → EndsRun new st workload a given → EndsRun old st workload b given
  ends_before st workload a b (fault.Refused why) same end = end
  ends_before st workload a b (fault.Unmade file why) same end = (subst IsTrue same end.0, no_more file why end.1)
  ends_before st workload a b (fault.Failed file) same end = (subst IsTrue same end.0, end.1)
  ends_before st workload a b fault.NoThread same end = end

-- the folder is left if there was one
pub folder_there : {D : Type 0} (holds : D → FileName → List ℕ → Type 0) (points : ℕ) (first later : Option D) (files : List File) → HasWritten holds points first later files → is_some later ≡ is_some first
folder_there holds points None None files written = refl
folder_there holds points (Some old) (Some new) files written = refl
folder_there holds points None (Some new) files written = absurd written
folder_there holds points (Some old) None files written = absurd written

-- a file is written only if there is a folder
pub one_there : (a b c there : Bool) → a ≡ there → b ≡ there → c ≡ there → IsTrue (a || b || c) → IsTrue there
one_there a b c true x y z is = refl
one_there true b c false x y z is = cc (x)
one_there false true c false x y z is = cc (y)
one_there false false true false x y z is = cc (z)
one_there false false false false x y z is = cc (is)

module _ (refuses : FileName → Refusal → Type 0) (st : Setting) (workload : Workload) (there : Bool) where
  -- a fault of the threads
  of_threads : {T : Type 0} (writes : Bool) (count : ℕ) (given : ThreadsFault T) → (IsTrue writes → IsTrue there) → count ≡ transactions_in workload.clients → IsThreadsEnd refuses writes count workload.points given → EndsRun refuses st workload there given
  of_threads writes count (fault.Refused why.OutOfMemory) on same end = tt
  of_threads writes count (fault.Refused why.Full) on same many = inr (omega (arith, same, many))
  of_threads writes count (fault.Refused why.PointsFull) on same end = end
  of_threads writes count (fault.Refused other) on same end = absurd end
  of_threads writes count (fault.Unmade file why) on same end = (on end.0, end.1)
  of_threads writes count (fault.Failed file) on same end = (on end.0, end.1)
  of_threads writes count fault.NoThread on same end = tt

  -- a stop of the threads over its store; if the log has no place left, all sessions of the store were compared
  pub of_stop : {N T : Type 0} (writes : Bool) (idle : List Sitter) (clients : List Client) (given : ThreadsStop N T) (why : ThreadsFault T) → (IsTrue writes → IsTrue there) → transactions_in clients ≡ transactions_in workload.clients → All IsFresh idle
      → ((given_up : ℕ) (ran : List Sitter) → HaveWorked st clients given_up ran → HasAll st.sessions (idle ++ ran)) → IsFaultOfStop st given why → StoreHasStopped refuses st writes idle clients workload.points given → EndsRun refuses st workload there why
  of_stop writes idle clients (stop.LogFull full all) why on same fresh back (is, (history, end)) (has, (ran, sessions, have)) =
      let whole : IsEndOf st (idle ++ ran) full.seat full.seen history = subst (λ (ss : List Sitter). IsEndOf st ss full.seat full.seen history) sessions end in
      let fills = fills_log st workload.points full clients all.given_up idle ran history has whole have fresh (back all.given_up ran have) in
      subst (EndsRun refuses st workload there) (sym is) (omega (arith, fills, same))
  of_stop writes idle clients stop.LogEnded why on same fresh back is ended = subst (EndsRun refuses st workload there) (sym is) tt
  of_stop writes idle clients (stop.Other given) why on same fresh back is end = subst (EndsRun refuses st workload there) (sym is) (of_threads writes (transactions_in clients) given on same end)

  -- one of a file of the folder
  pub lost_ends : {T : Type 0} (given : FileFault T) → IsTrue there → IsLost refuses given → EndsRun refuses st workload there (lost_file_fault given)
  lost_ends (lost.Unmade file why) is refused = (is, refused)
  lost_ends (lost.Failed file) is counted = (is, counted)

module _ (st : Setting) (workload : Workload) where
  -- a store that can't be opened
  pub not_opened : (given : Refusal) → ((given ≡ why.Full) × (st.capacity < len st.base)) ⊎ (given ≡ why.OutOfMemory) → IsRunRefused st workload given
  not_opened given (inl (full, few)) = subst (IsRunRefused st workload) (sym full) (inl few)
  not_opened given (inr memory) = subst (IsRunRefused st workload) (sym memory) tt

  -- a failed allocation
  pub no_memory : (given : Refusal) → given ≡ why.OutOfMemory → IsRunRefused st workload given
  no_memory given is = subst (IsRunRefused st workload) (sym is) tt

-- the base has more pairs than there is room for
pub too_large : (capacity : ℕ) (items : List (List ℕ × List ℕ)) (pairs : Database) → KeysRise items → database_of items ≡ pairs → capacity < length items → capacity < len pairs
too_large capacity items pairs rise is many = subst (λ (l : List (List ℕ × List ℕ)). capacity < length l) (sym (pairs_of items pairs rise is)) many

-- nothing is reported of the result
pub untold_ends : (st : Setting) (workload : Workload) (files : List File) (given : Refusal) → st.capacity ≤ MOST_KEYS → HaveJustTo workload.points files → IsUntoldAfter st files given
    → IsRunRefused st workload given
untold_ends st workload files why.OutOfMemory room just untold = tt
untold_ends st workload files why.Full room just (some, inl few) = inl few
untold_ends st workload files why.Full room just (some, inr many) = absurd (omega (arith, room, many))
untold_ends st workload files (why.Gap point) room just (some, missing, (later, behind, has)) =
    let low = just.1 later has in
    let there : has_point files point ≡ true = just.0 point some (omega (arith, behind, low.1)) in
    cc (missing, there)
untold_ends st workload files other room just untold = absurd untold
