-- What every event keeps of a world, and that a new world represents the empty history.
use Rattle.pc_types.specs.declared.Change.TheVariants.{Add}
use Rattle.std.proofs.Common.{◌≡◌, ℕ, ◌+◌, ◌-◌, ◌≤◌, zero, suc, List, [], ◌∷◌, length, get_or, replicate, Option, Some, None, refl, sym, ap, subst, ◌∙◌, inl, inr, map}
use Rattle.std.specs.Prelude.{MatchOption, ℤ}
use Rattle.std.proofs.lemmas.List.{length-replicate, length-set}
use Rattle.pc_types.specs.declared.Mode.TheVariants.{Shared, Exclusive}
use Rattle.pc_types.specs.declared.Phase.{Phase}
use Rattle.pc_types.specs.declared.Phase.TheVariants.{Rest}
use Rattle.pc_types.specs.declared.Reply.{Reply}
use Rattle.pc_types.specs.declared.Reply.TheVariants as told
use Rattle.pc_types.specs.Changes.{change_to}
use Rattle.pc_model.specs.Database.{KeysRise, database_of, write_of}
use Rattle.pc_model.specs.Files.{File, file_at, join_of}
use Rattle.pc_types.specs.declared.Outcome.{Outcome}
use Rattle.pc_types.specs.declared.Outcome.TheVariants.{Granted, Queued, Died}
use Rattle.pc_model.specs.Replies.{IsFileReply, first_refusal, read_reply, by_outcome}
use Rattle.pc_records.specs.RowSteps.{committed_row}
use Rattle.pc_records.proofs.FirstKeyLaws.{first_records}
use Rattle.pc_transactions.specs.Sessions.{with_session, after_writing, after_dying, if_died, if_granted}
use Rattle.pc_engine.specs.Store.{Store, setting_of, active}
use Rattle.pc_transactions.specs.Actives.{Active, active_in}
use Rattle.pc_types.specs.declared.Class.{Class}
use Rattle.pc_engine.specs.Steps.{outcome_in, abort_causes, Owes, Begins, Gets, WritesKey, AddsTo, Commits, Aborts, StartsPoint, Seals, Moves, TakesFirstKey, Takes, Shelves, Joins}
use Rattle.pc_engine.specs.Stands.{Stands, IfRefused}
use Rattle.pc_engine.proofs.LocalSteps.{same_setting}

-- a fact of every reply is one of a refusal
if_refused : (reply : Reply) (Fact : Type 0) → Fact → IfRefused reply Fact
if_refused (told.Refused why) Fact fact = fact
if_refused other Fact fact = tt

-- what every event keeps: what the run started from, and, if it is refused, all
abbrev Keeps : Store → Reply → Store → Type 0
Keeps old reply new = (setting_of new ≡ setting_of old) × IfRefused reply (new ≡ old)

owes_keeps : (o : Option Reply) (old : Store) (reply : Reply) (new : Store) (Done : Type 0) → (Done → Keeps old reply new) → Owes o old reply new Done → Keeps old reply new
owes_keeps (Some due) old reply new Done done owes = (ap setting_of owes.1, if_refused reply (new ≡ old) owes.1)
owes_keeps None old reply new Done done (inl d) = done d
owes_keeps None old reply new Done done (inr out) = (ap setting_of out.1, if_refused reply (new ≡ old) out.1)

-- a request's answer is no refusal
not_refused : (o : Outcome) (answer : Option (List ℕ)) (Fact : Type 0) → IfRefused (by_outcome o (read_reply answer)) Fact
not_refused Granted None Fact = tt
not_refused Granted (Some v) Fact = tt
not_refused Queued answer Fact = tt
not_refused Died answer Fact = tt

not_refused_write : (o : Outcome) (Fact : Type 0) → IfRefused (by_outcome o told.Ok) Fact
not_refused_write Granted Fact = tt
not_refused_write Queued Fact = tt
not_refused_write Died Fact = tt

not_refused_sum : (o : Outcome) (sum : ℤ) (Fact : Type 0) → IfRefused (by_outcome o (told.Sum sum)) Fact
not_refused_sum Granted sum Fact = tt
not_refused_sum Queued sum Fact = tt
not_refused_sum Died sum Fact = tt

-- there are as many sessions, however a request is answered
asked_length : (o : Outcome) (old dead sessions : List (Option Active)) → length dead ≡ length old → length sessions ≡ length old → length (if_died o dead (if_granted o sessions old)) ≡ length old
asked_length Granted old dead sessions d s = s
asked_length Queued old dead sessions d s = refl
asked_length Died old dead sessions d s = d

read_length : (o : Outcome) (old dead : List (Option Active)) → length dead ≡ length old → length (if_died o dead old) ≡ length old
read_length Granted old dead d = refl
read_length Queued old dead d = refl
read_length Died old dead d = d

pub begins_keeps : (old : Store) (s : ℕ) (reply : Reply) (new : Store) → Begins old s reply new → Keeps old reply new
begins_keeps old s reply new = owes_keeps _ old reply new _ (λ d. (ap setting_of d.1 ∙ same_setting old _ (length-set old.sessions _ _), rw d.0 tt))

pub gets_keeps : (old : Store) (s : ℕ) (key : List ℕ) (reply : Reply) (new : Store) → Gets old s key reply new → Keeps old reply new
gets_keeps old s key reply new =
    owes_keeps _ old reply new _ (λ d. (ap setting_of d.1 ∙ same_setting old _ (read_length (outcome_in old s key Shared) old.sessions (with_session old.sessions s (after_dying (active old s))) (length-set old.sessions _ _)), rw d.0 (not_refused (outcome_in old s key Shared) _ _)))

pub writes_keeps : (old : Store) (s : ℕ) (key : List ℕ) (content : Option (List ℕ)) (reply : Reply) (new : Store) → WritesKey old s key content reply new → Keeps old reply new
writes_keeps old s key content reply new =
    owes_keeps _ old reply new _
    (λ d. (
      ap setting_of d.1
          ∙ same_setting old _ (asked_length (outcome_in old s key Exclusive) old.sessions (with_session old.sessions s (after_dying (active old s))) (with_session old.sessions s (after_writing (active old s) (write_of key (change_to content)))) (length-set old.sessions _ _) (length-set old.sessions _ _)),
      rw d.0 (not_refused_write (outcome_in old s key Exclusive) _),
    ))

pub adds_keeps : (old : Store) (s : ℕ) (key : List ℕ) (delta : ℤ) (reply : Reply) (new : Store) → AddsTo old s key delta reply new → Keeps old reply new
adds_keeps old s key delta reply new =
    owes_keeps _ old reply new _
    (λ d. (
      ap setting_of d.1
          ∙ same_setting old _ (asked_length (outcome_in old s key Exclusive) old.sessions (with_session old.sessions s (after_dying (active old s))) (with_session old.sessions s (after_writing (active old s) (write_of key (Add delta)))) (length-set old.sessions _ _) (length-set old.sessions _ _)),
      rw d.0 (not_refused_sum (outcome_in old s key Exclusive) _ _),
    ))

pub commits_keeps : (old : Store) (s : ℕ) (reply : Reply) (new : Store) → Commits old s reply new → Keeps old reply new
commits_keeps old s reply new = owes_keeps _ old reply new _ (λ d. (ap setting_of d.1 ∙ same_setting old _ (length-set old.sessions _ _), rw d.0 tt))

pub aborts_keeps : (old : Store) (s : ℕ) (reply : Reply) (new : Store) → Aborts old s reply new → Keeps old reply new
aborts_keeps old s reply new = by_due (first_refusal (abort_causes old s)) (λ d. (ap setting_of d.1 ∙ same_setting old _ (length-set old.sessions _ _), rw d.0 tt))
  where
    by_due : (o : Option Reply) {Done : Type 0} → (Done → Keeps old reply new) → MatchOption o Done (λ due. (reply ≡ due) × (new ≡ old)) → Keeps old reply new
    by_due None done step = done step
    by_due (Some due) done step = (ap setting_of step.1, if_refused reply (new ≡ old) step.1)

pub starts_keeps : (old : Store) (reply : Reply) (new : Store) → StartsPoint old reply new → Keeps old reply new
starts_keeps old reply new = owes_keeps _ old reply new _ (λ d. (ap setting_of d.1, rw d.0 tt))

pub seals_keeps : (old : Store) (reply : Reply) (new : Store) → Seals old reply new → Keeps old reply new
seals_keeps old reply new = owes_keeps _ old reply new _ (λ d. (ap setting_of d.1, rw d.0 tt))

pub moves_keeps : (from : Phase) (class : Class) (to : Phase) (old : Store) (reply : Reply) (new : Store) → Moves from class to old reply new → Keeps old reply new
moves_keeps from class to old reply new = owes_keeps _ old reply new _ (λ d. (ap setting_of d.1, rw d.0 tt))

pub takes_keeps : (old : Store) (reply : Reply) (new : Store) → Takes old reply new → Keeps old reply new
takes_keeps old reply new = owes_keeps _ old reply new _ (by_keys old.cycle.closed_set)
  where
    by_keys : (keys : List (List ℕ)) → TakesFirstKey keys old reply new → Keeps old reply new
    by_keys [] d = absurd d
    by_keys (k ∷ ks) d = (ap setting_of d.1, rw d.0 tt)

pub shelves_keeps : (old : Store) (reply : Reply) (new : Store) → Shelves old reply new → Keeps old reply new
shelves_keeps old reply new = owes_keeps _ old reply new _ (λ d. (ap setting_of d.1, rw d.0 tt))

pub joins_keeps : (old : Store) (a b : ℕ) (reply : Reply) (new : Store) → Joins old a b reply new → Keeps old reply new
joins_keeps old a b reply new = owes_keeps _ old reply new _ (λ d. (ap setting_of d.1, told_file (join_of (file_at old.shelf a) (file_at old.shelf b)) d.0))
  where
    told_file : (files : List File) → IsFileReply files (length old.shelf + 1) reply → IfRefused reply (new ≡ old)
    told_file [] is = absurd is
    told_file (f ∷ fs) is = rw is tt

-- no session has a transaction
abbrev no_transaction : Option Active
no_transaction = None

all_idle : (n i : ℕ) → get_or (replicate n no_transaction) i None ≡ None
all_idle zero i = refl
all_idle (suc n) zero = refl
all_idle (suc n) (suc i) = all_idle n i

-- a world made of a base represents the empty history
pub stands_first : (w : Store) (pairs : List (List ℕ × List ℕ)) (n : ℕ) → KeysRise pairs → database_of pairs ≡ w.base.pairs → w.kept.rows ≡ map committed_row pairs → w.log ≡ [] → w.begun ≡ 0 → w.sessions ≡ replicate n None → w.cycle.phase ≡ Rest → w.cycle.point ≡ 0 → w.cycle.open_set ≡ [] → w.cycle.closed_set ≡ [] → w.shelf ≡ [] → w.base.point ≡ 0 → n ≤ 64 → Stands w []
stands_first w pairs n rise base rows log begun idle phase point open_keys closed shelf start few = record {
  sessions = subst (λ k. k ≤ 64) (sym (ap (λ (ss : List (Option Active)). length ss) idle ∙ length-replicate n no_transaction)) few;
  limits = tt;
  legal = tt;
  values = tt;
  parts = record {
    records = rw rows (first_records w.base.pairs pairs rise base);
    log = log;
    begun = begun;
    sessions = λ s there. ap (λ (ss : List (Option Active)). active_in ss s) idle ∙ all_idle n (s - 1);
    start = start;
    cycle = record { phase = phase; point = point; open_set = open_keys; closed_set = closed; taken = λ t. cc; shelved = shelf };
  };
}
