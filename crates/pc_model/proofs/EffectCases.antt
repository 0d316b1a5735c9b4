-- The effects that an event may have: what holds of each of them holds of the effect of its reply. What a session's call
-- does besides waiting and dying is asked for only if its reply counts.
use Rattle.std.proofs.Common.{◌≡◌, ℕ, true, List, refl}
use Rattle.std.specs.Prelude.{Option, Some, None, ℤ}
use Rattle.pc_types.specs.declared.Mode.TheVariants.{Shared, Exclusive}
use Rattle.pc_types.specs.declared.Phase.{Phase}
use Rattle.pc_types.specs.declared.Event.{Event}
use Rattle.pc_types.specs.declared.Event.TheVariants as asked
use Rattle.pc_types.specs.declared.Reply.{Reply}
use Rattle.pc_types.specs.declared.Reply.TheVariants as told
use Rattle.pc_model.specs.Calls.{counts}
use Rattle.pc_model.specs.History.{Effect, effect_of, effect_of_begin, effect_of_get, effect_of_write, effect_of_add, effect_of_commit, effect_of_abort, effect_of_move, effect_of_take, effect_of_done, effect_of_join}
use Rattle.pc_model.specs.History.Effect.{Begins, Reads, Writes, Adds, Waits, Dies, Commits, Aborts, Moves, Takes, Shelves, Joins, Nothing}

module _ (P : Effect → Type 0) where
  -- an event is of one of ten kinds
  pub by_event : (r : Reply) → ((s : ℕ) → P (effect_of_begin s r)) → ((s : ℕ) (key : List ℕ) → P (effect_of_get s key r)) → ((s : ℕ) (key : List ℕ) (value : Option (List ℕ)) → P (effect_of_write s key value r))
      → ((s : ℕ) (key : List ℕ) (delta : ℤ) → P (effect_of_add s key delta r)) → ((s : ℕ) → P (effect_of_commit s r)) → ((s : ℕ) → P (effect_of_abort s r)) → P (effect_of_move r) → P (effect_of_take r) → P (effect_of_done r) → ((a b : ℕ) → P (effect_of_join a b r)) → (e : Event) → P (effect_of e r)
  by_event r begin get write add commit abort move take done join (asked.Begin s) = begin s
  by_event r begin get write add commit abort move take done join (asked.Get s key) = get s key
  by_event r begin get write add commit abort move take done join (asked.Put s key value) = write s key (Some value)
  by_event r begin get write add commit abort move take done join (asked.Del s key) = write s key None
  by_event r begin get write add commit abort move take done join (asked.Add s key delta) = add s key delta
  by_event r begin get write add commit abort move take done join (asked.Commit s) = commit s
  by_event r begin get write add commit abort move take done join (asked.Abort s) = abort s
  by_event r begin get write add commit abort move take done join asked.StartPoint = move
  by_event r begin get write add commit abort move take done join asked.Seal = move
  by_event r begin get write add commit abort move take done join asked.OpenCapture = move
  by_event r begin get write add commit abort move take done join asked.Take = take
  by_event r begin get write add commit abort move take done join asked.Done = done
  by_event r begin get write add commit abort move take done join asked.Rest = move
  by_event r begin get write add commit abort move take done join (asked.Join a b) = join a b

  module _ (none : P Nothing) where
    pub begin_case : (s : ℕ) (r : Reply) → (counts r ≡ true → P (Begins s)) → P (effect_of_begin s r)
    begin_case s (told.Begun t) begins = begins refl
    begin_case s other begins = none

    pub get_case : (s : ℕ) (key : List ℕ) (r : Reply) → ((answer : Option (List ℕ)) → counts r ≡ true → P (Reads s key answer)) → P (Waits s key Shared) → P (Dies s key Shared) → P (effect_of_get s key r)
    get_case s key (told.Found value) reads waits dies = reads (Some value) refl
    get_case s key told.Absent reads waits dies = reads None refl
    get_case s key told.Wait reads waits dies = waits
    get_case s key told.Died reads waits dies = dies
    get_case s key other reads waits dies = none

    pub write_case : (s : ℕ) (key : List ℕ) (value : Option (List ℕ)) (r : Reply) → (counts r ≡ true → P (Writes s key value)) → P (Waits s key Exclusive) → P (Dies s key Exclusive) → P (effect_of_write s key value r)
    write_case s key value told.Ok writes waits dies = writes refl
    write_case s key value told.Wait writes waits dies = waits
    write_case s key value told.Died writes waits dies = dies
    write_case s key value other writes waits dies = none

    pub add_case : (s : ℕ) (key : List ℕ) (delta : ℤ) (r : Reply) → ((sum : ℤ) → counts r ≡ true → P (Adds s key delta sum)) → P (Waits s key Exclusive) → P (Dies s key Exclusive) → P (effect_of_add s key delta r)
    add_case s key delta (told.Sum sum) adds waits dies = adds sum refl
    add_case s key delta told.Wait adds waits dies = waits
    add_case s key delta told.Died adds waits dies = dies
    add_case s key delta other adds waits dies = none

    pub commit_case : (s : ℕ) (r : Reply) → (counts r ≡ true → P (Commits s)) → P (effect_of_commit s r)
    commit_case s (told.Committed number) commits = commits refl
    commit_case s other commits = none

    pub abort_case : (s : ℕ) (r : Reply) → (counts r ≡ true → P (Aborts s)) → P (effect_of_abort s r)
    abort_case s told.Aborted aborts = aborts refl
    abort_case s other aborts = none

    pub move_case : (r : Reply) → ((phase : Phase) (point : ℕ) → P (Moves phase point)) → P (effect_of_move r)
    move_case (told.Phase phase point) moves = moves phase point
    move_case other moves = none

    pub take_case : (r : Reply) → ((key : List ℕ) (content : Option (List ℕ)) → P (Takes key content)) → P (effect_of_take r)
    take_case (told.Took key content) takes = takes key content
    take_case other takes = none

    pub done_case : (r : Reply) → ((point : ℕ) → P (Shelves point)) → P (effect_of_done r)
    done_case (told.PartDone point file entries) shelves = shelves point
    done_case other shelves = none

    pub join_case : (a b : ℕ) (r : Reply) → P (Joins a b) → P (effect_of_join a b r)
    join_case a b (told.File file points entries) joins = joins
    join_case a b other joins = none
