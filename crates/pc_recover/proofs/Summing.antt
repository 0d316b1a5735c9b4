-- The steps of a recovery are the rules.
use Rattle.std.proofs.Common.{◌≡◌, ℕ, List, length, Option, Result, Ok, Err, refl, sym, ap, ◌∙◌, subst}
use Rattle.std.specs.Prelude.{◌≢◌}
use Rattle.std.specs.Result.{IsErr, IsErrAnd}
use Rattle.pc_types.specs.declared.refusal.Refusal.{Refusal}
use Rattle.pc_types.specs.declared.refusal.Refusal.TheVariants.{OutOfMemory}
use Rattle.pc_io.specs.Fields.{◌>>=◌, Gives}
use Rattle.pc_model.specs.Database.{Database}
use Rattle.pc_model.specs.Log.{after}
use Rattle.pc_model.specs.Files.{File, BaseFile}
use Rattle.pc_bases.specs.Reading.{base_at}
use Rattle.pc_log.specs.Reading.{LogRead}
use Rattle.pc_log.proofs.StepLaws.{made_ok}
use Rattle.pc_recover.specs.declared.reach.Reach.{Reach}
use Rattle.pc_recover.specs.declared.recovered.Recovered.{Recovered}
use Rattle.pc_recover.specs.declared.recovered.Skipped.{Skipped}
use Rattle.pc_recover.specs.Reach.{IsReach}
use Rattle.pc_recover.specs.Replaying.{Replay, replay_of, log_replay}
use Rattle.pc_recover.specs.Recovery.{Recovery, recovery, recovery_of, recovery_on, recovered_point, first_missing, read_files, decoded_files, files_to, with_files, log_of_run, entries_after, unused_from}

-- a refusal is that of the rules, or an allocation failed
pub refused_with : (e : Refusal) (r : Result Recovered Refusal) (read : Result Recovery Refusal) → IsErr r × IsErrAnd r (λ why. why ≡ e) → (e ≢ OutOfMemory → read ≡ Err e) → Gives recovery_of r read
refused_with e (Ok x) read given due = absurd given.1
refused_with e (Err why) read given due = λ other. let same : why ≡ e = given.1 in due (λ is. other (same ∙ is)) ∙ ap Err (sym same)

pub memory_ran_out : (r : Result Recovered Refusal) (read : Result Recovery Refusal) → IsErr r × IsErrAnd r (λ why. why ≡ OutOfMemory) → Gives recovery_of r read
memory_ran_out r read given = refused_with OutOfMemory r read given (λ other. absurd (other refl))

-- the refusal of a step's result is the step's
made_err : {A B : Type 0} (r : Result A Refusal) (f : A → B) (e : Refusal) → (r >>= λ x. Ok (f x)) ≡ Err e → r ≡ Err e
made_err (Ok x) f e is = absurd cc
made_err (Err d) f e is = ap (as_err d) is
  where
    as_err : {A B : Type 0} → Refusal → Result B Refusal → Result A Refusal
    as_err d (Ok x) = Err d
    as_err d (Err e) = Err e

-- the recovery of a log on this state
abbrev pub made_of : ℕ → Option Refusal → Database → ℕ → List Skipped → Result Recovery Refusal
made_of point fault pairs entries skipped = Ok (record { pairs = pairs; point = point; entries = entries; skipped = skipped; fault = fault })

-- the recovery up to this point, if the files have this gap
abbrev pub recovery_with : ℕ → Option ℕ → BaseFile → List (Result File Refusal) → List ℕ → Result Recovery Refusal
recovery_with n missing base files log_bytes = do
  laid ← with_files base (files_to n (read_files files))
  log ← log_of_run base.run log_bytes
  made_of n log.fault (after laid.pairs (entries_after n log.entries)) (length log.entries) (unused_from 0 n missing files)

on_files : (base : BaseFile) (files : List (Result File Refusal)) (log : List ℕ) → recovery_on base files log ≡ recovery_with (recovered_point base.point (read_files files)) (first_missing base.point (read_files files)) base files log
on_files base files log = refl

on_base : (bytes : List ℕ) (parts : List (List ℕ)) (log : List ℕ) → recovery bytes parts log ≡ (base_at bytes >>= λ base. recovery_on base (decoded_files base.run parts) log)
unfolding recovery
on_base bytes parts log = refl

-- the base's fault
pub base_refused : (bytes : List ℕ) (parts : List (List ℕ)) (log : List ℕ) (e : Refusal) → base_at bytes ≡ Err e → recovery bytes parts log ≡ Err e
base_refused bytes parts log e is = on_base bytes parts log ∙ ap (λ r. r >>= λ base. recovery_on base (decoded_files base.run parts) log) is

module _ (bytes : List ℕ) (parts : List (List ℕ)) (log : List ℕ) (base : BaseFile) (read : base_at bytes ≡ Ok base) (run : ℕ) (run_is : run ≡ base.run) (files : List (Result File Refusal)) (files_are : files ≡ decoded_files run parts)
    (point : ℕ) (point_is : point ≡ base.point) (seen : List (Result File Refusal)) (seen_are : seen ≡ files) (reach : Reach) (reached : IsReach point (read_files seen) reach) where
  on_reach : recovery bytes parts log ≡ recovery_with reach.point reach.missing base files log
  on_reach = on_base bytes parts log
      ∙ ap (λ r. r >>= λ b. recovery_on b (decoded_files b.run parts) log) read
      ∙ ap (λ n. recovery_on base (decoded_files n parts) log) (sym run_is)
      ∙ ap (λ fs. recovery_on base fs log) (sym files_are)
      ∙ on_files base files log
      ∙ ap (λ n. recovery_with n (first_missing base.point (read_files files)) base files log) (sym (at_base.point))
      ∙ ap (λ l. recovery_with reach.point l base files log) (sym (at_base.missing))
    where
      at_base : IsReach base.point (read_files files) reach
      at_base = subst (λ b. IsReach b (read_files files) reach) point_is (subst (λ fs. IsReach point (read_files fs) reach) seen_are reached)

  -- the refusal of the join or of its application to the base
  pub state_refused : (e : Refusal) → with_files base (files_to reach.point (read_files files)) ≡ Err e → recovery bytes parts log ≡ Err e
  state_refused e is = on_reach ∙ ap (λ r. r >>= λ laid. log_of_run base.run log >>= λ found. made_of reach.point found.fault (after laid.pairs (entries_after reach.point found.entries)) (length found.entries) (unused_from 0 reach.point reach.missing files)) is

  module _ (laid : BaseFile) (is_laid : with_files base (files_to reach.point (read_files files)) ≡ Ok laid) where
    on_state : recovery bytes parts log ≡ (log_of_run run log >>= λ found. made_of reach.point found.fault (after laid.pairs (entries_after reach.point found.entries)) (length found.entries) (unused_from 0 reach.point reach.missing files))
    on_state = on_reach
        ∙ ap (λ r. r >>= λ state. log_of_run base.run log >>= λ found. made_of reach.point found.fault (after state.pairs (entries_after reach.point found.entries)) (length found.entries) (unused_from 0 reach.point reach.missing files)) is_laid
        ∙ ap (λ n. log_of_run n log >>= λ found. made_of reach.point found.fault (after laid.pairs (entries_after reach.point found.entries)) (length found.entries) (unused_from 0 reach.point reach.missing files)) (sym run_is)

    -- the log's refusal
    pub log_refused : (state : Database) (e : Refusal) → log_replay run reach.point state log ≡ Err e → recovery bytes parts log ≡ Err e
    log_refused state e is =
        on_state
        ∙ ap (λ r. r >>= λ found. made_of reach.point found.fault (after laid.pairs (entries_after reach.point found.entries)) (length found.entries) (unused_from 0 reach.point reach.missing files))
        (made_err (log_of_run run log) (λ (found : LogRead). replay_of reach.point state found.entries found.fault) e is)

    -- the whole recovery
    pub all_recovered : (state : Database) → state ≡ laid.pairs → (replay : Replay) → log_replay run reach.point state log ≡ Ok replay → (skipped : List Skipped) → skipped ≡ unused_from 0 reach.point reach.missing files → (pairs : Database) → pairs ≡ replay.pairs →
        recovery bytes parts log ≡ made_of reach.point replay.fault pairs replay.entries skipped
    all_recovered state state_is replay is skipped skipped_are pairs pairs_are =
        let unused = unused_from 0 reach.point reach.missing files in
        let found = made_ok (log_of_run run log) (λ (text : LogRead). replay_of reach.point state text.entries text.fault) replay is in
        on_state
        ∙ ap (λ r. r >>= λ text. made_of reach.point text.fault (after laid.pairs (entries_after reach.point text.entries)) (length text.entries) unused) found.1
        ∙ ap (λ db. made_of reach.point found.0.fault (after db (entries_after reach.point found.0.entries)) (length found.0.entries) unused) (sym state_is)
        ∙ ap (λ (r : Replay). made_of reach.point r.fault r.pairs r.entries unused) found.2
        ∙ ap (λ db. made_of reach.point replay.fault db replay.entries unused) (sym pairs_are)
        ∙ ap (made_of reach.point replay.fault pairs replay.entries) (sym skipped_are)
